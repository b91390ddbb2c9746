use Rattle.def_plan.proofs.SizeLaws.{plan-below_root, leaf_sums-below, of_a_round, of_an_evaluation}
use Rattle.def_strategy_laws.proofs.plan.plans_are_small.Goals as goal

pub returns : goal.returns
returns c = record { numbers = plan-below_root; leaf_sums = leaf_sums-below; of_a_round = of_a_round; of_an_evaluation = of_an_evaluation }
