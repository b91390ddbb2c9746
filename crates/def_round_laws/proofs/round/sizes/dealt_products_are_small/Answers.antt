use Rattle.def_round.proofs.Growth.{dealt_products_small}
use Rattle.def_round_laws.proofs.round.sizes.dealt_products_are_small.Goals as goal

pub returns : goal.returns
returns c = dealt_products_small
