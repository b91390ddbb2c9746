use Rattle.def_round.proofs.WorthPartsWithinSums.{worth_parts_are_within_sums}
use Rattle.def_round_laws.proofs.round.sizes.worth_parts_are_within_sums.Goals as goal

pub returns : goal.returns
returns c = worth_parts_are_within_sums
