use Rattle.def_round.proofs.Growth.{deals_within}
use Rattle.def_round_laws.proofs.round.sizes.small_regrets_deal_small_products.Goals as goal

pub returns : goal.returns
returns c = deals_within
