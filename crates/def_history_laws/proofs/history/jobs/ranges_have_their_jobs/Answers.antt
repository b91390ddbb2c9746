use Rattle.def_history.proofs.Ranges.{leaves_at_ranges as proved}
use Rattle.def_history_laws.proofs.history.jobs.ranges_have_their_jobs.Goals as goal

pub returns : goal.returns
returns c = proved
