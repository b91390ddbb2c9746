use Rattle.def_sums.proofs.RingLaws.{order_laws}
use Rattle.def_game_laws.proofs.sums.order_laws.Goals as goal

pub returns : goal.returns
returns c = order_laws
