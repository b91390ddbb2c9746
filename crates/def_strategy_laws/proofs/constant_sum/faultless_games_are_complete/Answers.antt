use Rattle.def_constant_sum.proofs.Faultless.{faultless}
use Rattle.def_strategy_laws.proofs.constant_sum.faultless_games_are_complete.Goals as goal

pub returns : goal.returns
returns c = faultless
