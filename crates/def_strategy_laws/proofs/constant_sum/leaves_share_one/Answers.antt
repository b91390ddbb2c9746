use Rattle.def_constant_sum.proofs.Probabilities.{one_in_all}
use Rattle.def_strategy_laws.proofs.constant_sum.leaves_share_one.Goals as goal

pub returns : goal.returns
returns c = one_in_all
