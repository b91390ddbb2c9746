use Rattle.def_round.proofs.SharesLaws.{deal_all}
use Rattle.def_round_laws.proofs.round.shares.shares_deal_all.Goals as goal

pub returns : goal.returns
returns c = deal_all
