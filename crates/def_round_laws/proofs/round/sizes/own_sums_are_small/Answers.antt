use Rattle.def_round.proofs.Growth.{own_sums_small}
use Rattle.def_round_laws.proofs.round.sizes.own_sums_are_small.Goals as goal

pub returns : goal.returns
returns c = own_sums_small
