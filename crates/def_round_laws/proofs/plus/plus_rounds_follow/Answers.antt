use Rattle.def_plus.proofs.EachPlusRoundFollows.{plus_rounds_follow}
use Rattle.def_round_laws.proofs.plus.plus_rounds_follow.Goals as goal

pub returns : goal.returns
returns c = plus_rounds_follow
