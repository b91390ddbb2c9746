use Rattle.def_plan.proofs.Sums.{gain_is_pay_one, gain_is_pay_two}
use Rattle.def_strategy_laws.proofs.plan.leaf_sums_give_the_payoff.Goals as goal

pub returns : goal.returns
returns c = record { for_one = gain_is_pay_one; for_two = gain_is_pay_two }
