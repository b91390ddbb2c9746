use Rattle.def_game_numbers.proofs.Weighing.{fitting}
use Rattle.def_strategy_laws.proofs.game_numbers.weights_fit.Goals as goal

pub returns : goal.returns
returns c = fitting
