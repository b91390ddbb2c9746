use Rattle.def_history.proofs.Passes.{pass_parts as proved}
use Rattle.def_history_laws.proofs.history.jobs.passes_replace.Goals as goal

pub returns : goal.returns
returns c = proved
