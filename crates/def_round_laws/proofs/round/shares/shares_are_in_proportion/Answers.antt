use Rattle.def_round.proofs.SharesLaws.{in_proportion}
use Rattle.def_round_laws.proofs.round.shares.shares_are_in_proportion.Goals as goal

pub returns : goal.returns
returns c = in_proportion
