use Rattle.def_game_paths.proofs.Order.{sets_in_order}
use Rattle.def_game_laws.proofs.game_paths.sets_are_in_order.Goals as goal

pub returns : goal.returns
returns c = sets_in_order
