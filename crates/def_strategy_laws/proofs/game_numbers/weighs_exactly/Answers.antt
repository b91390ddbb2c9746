use Rattle.def_game_numbers.proofs.Weighing.{weighing}
use Rattle.def_strategy_laws.proofs.game_numbers.weighs_exactly.Goals as goal

pub returns : goal.returns
returns c = weighing
