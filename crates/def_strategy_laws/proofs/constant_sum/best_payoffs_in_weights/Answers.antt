use Rattle.def_constant_sum.proofs.Gains.{best_payoffs}
use Rattle.def_strategy_laws.proofs.constant_sum.best_payoffs_in_weights.Goals as goal

pub returns : goal.returns
returns c = best_payoffs
