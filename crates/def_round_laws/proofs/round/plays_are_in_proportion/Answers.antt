use Rattle.def_round.proofs.Proportion.{plays_are_in_proportion}
use Rattle.def_round_laws.proofs.round.plays_are_in_proportion.Goals as goal

pub returns : goal.returns
returns c = plays_are_in_proportion
