use Rattle.def_game_scale.proofs.ZeroSum.{as_zero_sum}
use Rattle.def_game_laws.proofs.game_scale.zero_sum_is_sum_zero.Goals as goal

pub returns : goal.returns
returns c = as_zero_sum
