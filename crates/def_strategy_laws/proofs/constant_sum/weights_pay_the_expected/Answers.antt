use Rattle.def_constant_sum.proofs.Payments.{in_weights}
use Rattle.def_strategy_laws.proofs.constant_sum.weights_pay_the_expected.Goals as goal

pub returns : goal.returns
returns c = in_weights
