use Rattle.def_history.proofs.Passes.{jobs_come_of_passes as proved}
use Rattle.def_history_laws.proofs.history.jobs.jobs_come_of_passes.Goals as goal

pub returns : goal.returns
returns c = proved
