use Rattle.def_round.proofs.EachRoundFollows.{rounds_follow}
use Rattle.def_round_laws.proofs.round.rounds_follow.Goals as goal

pub returns : goal.returns
returns c = rounds_follow
