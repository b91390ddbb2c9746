use Rattle.def_round.proofs.Growth.{regrets_small}
use Rattle.def_round_laws.proofs.round.sizes.regrets_are_small.Goals as goal

pub returns : goal.returns
returns c = regrets_small
