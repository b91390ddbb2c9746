use Rattle.def_tree.proofs.Walks.{entered-events_from}
use Rattle.def_game_laws.proofs.tree.enters_in_prefix_order.Goals as goal

pub returns : goal.returns
returns c = entered-events_from 1
