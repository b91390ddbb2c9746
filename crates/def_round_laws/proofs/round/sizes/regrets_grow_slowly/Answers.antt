use Rattle.def_round.proofs.Growth.{regrets_grow_slowly}
use Rattle.def_round_laws.proofs.round.sizes.regrets_grow_slowly.Goals as goal

pub returns : goal.returns
returns c = regrets_grow_slowly
