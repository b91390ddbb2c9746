use Rattle.def_round.proofs.Growth.{regrets_stay_small}
use Rattle.def_round_laws.proofs.round.sizes.regrets_stay_small.Goals as goal

pub returns : goal.returns
returns c = regrets_stay_small
