use Rattle.def_fraction.proofs.OrderLemmas.{orders_values}
use Rattle.def_game_laws.proofs.fraction.laws.order_is_total.Goals as goal

pub returns : goal.returns
returns c = orders_values
