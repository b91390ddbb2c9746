use Rattle.def_round.proofs.SharesLaws.{no_weight_no_share}
use Rattle.def_round_laws.proofs.round.shares.no_weight_no_share.Goals as goal

pub returns : goal.returns
returns c = no_weight_no_share
