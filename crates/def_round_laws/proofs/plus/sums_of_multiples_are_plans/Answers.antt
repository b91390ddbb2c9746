use Rattle.def_plus.proofs.Multiples.{sums_of_multiples_are_plans}
use Rattle.def_round_laws.proofs.plus.sums_of_multiples_are_plans.Goals as goal

pub returns : goal.returns
returns c = sums_of_multiples_are_plans
