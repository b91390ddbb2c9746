use Rattle.def_round.proofs.Sums.{rounds_sum_to_plans}
use Rattle.def_round_laws.proofs.round.rounds_sum_to_plans.Goals as goal

pub returns : goal.returns
returns c = rounds_sum_to_plans
