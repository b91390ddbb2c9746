use Rattle.std.proofs.Common.{refl}
use Rattle.def_plan.proofs.OrderTest.{in_order-tested}
use Rattle.def_plan.specs.Kuhn.{kuhn, sets_of_one, sets_of_two, even_one, even_two}
use Rattle.def_reply.proofs.BoundLaws.{best_bounds}
use Rattle.def_strategy_laws.proofs.reply.examples.bounds_of_kuhn_poker.Goals as goal

pub returns : goal.returns
returns c = record {
  floor = best_bounds.floor kuhn even_one (in_order-tested sets_of_two refl);
  ceiling = best_bounds.ceiling kuhn even_two (in_order-tested sets_of_one refl);
}
