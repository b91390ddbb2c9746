use Rattle.def_history.proofs.Locks.{local_steps_are_steps}
use Rattle.def_history_laws.proofs.history.local_steps_are_steps.Goals as goal

pub returns : goal.returns
returns c = local_steps_are_steps
