use Rattle.def_constant_sum.proofs.Payments.{pay_the_sum}
use Rattle.def_strategy_laws.proofs.constant_sum.payoffs_add_up.Goals as goal

pub returns : goal.returns
returns c = λ tables tree game root_one root_two plan_one plan_two are. pay_the_sum tables tree game.complete root_one root_two plan_one plan_two are
    game.constant_sum
