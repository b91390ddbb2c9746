use Rattle.def_game_scale.proofs.Weights.{whole-sum}
use Rattle.def_game_laws.proofs.game_scale.sum_is_whole.Goals as goal

pub returns : goal.returns
returns c = whole-sum
