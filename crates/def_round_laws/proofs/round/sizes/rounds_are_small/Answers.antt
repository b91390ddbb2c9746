use Rattle.def_round.proofs.Growth.{rounds_small}
use Rattle.def_round_laws.proofs.round.sizes.rounds_are_small.Goals as goal

pub returns : goal.returns
returns c = rounds_small
