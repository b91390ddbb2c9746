use Rattle.def_history.proofs.Ends.{bag_legal}
use Rattle.def_history_laws.proofs.history.bag_is_legal.Goals as goal

pub returns : goal.returns
returns c = bag_legal
