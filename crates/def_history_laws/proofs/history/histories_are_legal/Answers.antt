use Rattle.def_history.proofs.Ends.{histories_legal}
use Rattle.def_history_laws.proofs.history.histories_are_legal.Goals as goal

pub returns : goal.returns
returns c = histories_legal
