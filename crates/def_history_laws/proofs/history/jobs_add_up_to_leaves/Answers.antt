use Rattle.def_history.proofs.Leaves.{jobs_add_up}
use Rattle.def_history_laws.proofs.history.jobs_add_up_to_leaves.Goals as goal

pub returns : goal.returns
returns c = jobs_add_up
