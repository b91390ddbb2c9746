use Rattle.def_round.proofs.Trees.{values_within}
use Rattle.def_round_laws.proofs.round.sizes.values_are_within_sums.Goals as goal

pub returns : goal.returns
returns c = values_within
