use Rattle.def_history.proofs.Cuts.{passes-pass}
use Rattle.def_history_laws.proofs.history.jobs.later_passes_keep.Goals as goal

pub returns : goal.returns
returns c = passes-pass
