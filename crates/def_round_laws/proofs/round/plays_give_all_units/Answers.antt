use Rattle.def_round.proofs.Plays.{plays_all_units}
use Rattle.def_round_laws.proofs.round.plays_give_all_units.Goals as goal

pub returns : goal.returns
returns c = plays_all_units
