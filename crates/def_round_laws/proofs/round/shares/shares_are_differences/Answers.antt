use Rattle.def_round.proofs.SharesLaws.{are_differences}
use Rattle.def_round_laws.proofs.round.shares.shares_are_differences.Goals as goal

pub returns : goal.returns
returns c = are_differences
