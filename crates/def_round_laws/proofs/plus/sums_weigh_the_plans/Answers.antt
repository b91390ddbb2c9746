use Rattle.def_plus.proofs.PlusSums.{sums_weigh_the_plans}
use Rattle.def_round_laws.proofs.plus.sums_weigh_the_plans.Goals as goal

pub returns : goal.returns
returns c = sums_weigh_the_plans
