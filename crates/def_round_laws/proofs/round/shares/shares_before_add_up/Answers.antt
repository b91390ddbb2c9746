use Rattle.def_round.proofs.SharesLaws.{before_add_up}
use Rattle.def_round_laws.proofs.round.shares.shares_before_add_up.Goals as goal

pub returns : goal.returns
returns c = before_add_up
