use Rattle.def_plus.proofs.PlusSums.{plus_rounds_sum_to_plans}
use Rattle.def_round_laws.proofs.plus.plus_rounds_sum_to_plans.Goals as goal

pub returns : goal.returns
returns c = plus_rounds_sum_to_plans
