use Rattle.def_game_scale.proofs.Weights.{whole-weights}
use Rattle.def_game_laws.proofs.game_scale.weights_are_whole.Goals as goal

pub returns : goal.returns
returns c = whole-weights
