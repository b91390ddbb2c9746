use Rattle.def_round.proofs.Trees.{worths_within}
use Rattle.def_round_laws.proofs.round.sizes.worths_are_within_sums.Goals as goal

pub returns : goal.returns
returns c = worths_within
