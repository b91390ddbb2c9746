use Rattle.def_round.proofs.Plays.{plans_of_plays_are_unique}
use Rattle.def_round_laws.proofs.round.plans_of_plays_are_unique.Goals as goal

pub returns : goal.returns
returns c = plans_of_plays_are_unique
