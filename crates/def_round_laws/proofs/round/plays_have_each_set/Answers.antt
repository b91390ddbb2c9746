use Rattle.def_round.proofs.Plays.{plays_each_set}
use Rattle.def_round_laws.proofs.round.plays_have_each_set.Goals as goal

pub returns : goal.returns
returns c = plays_each_set
