use Rattle.def_history.proofs.Passes.{only_cuts_change as proved}
use Rattle.def_history_laws.proofs.history.jobs.only_cuts_change.Goals as goal

pub returns : goal.returns
returns c = proved
