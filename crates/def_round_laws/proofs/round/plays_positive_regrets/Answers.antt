use Rattle.def_round.proofs.Plays.{plays_positive_regrets}
use Rattle.def_round_laws.proofs.round.plays_positive_regrets.Goals as goal

pub returns : goal.returns
returns c = plays_positive_regrets
