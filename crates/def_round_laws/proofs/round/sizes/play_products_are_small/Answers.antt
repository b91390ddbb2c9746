use Rattle.def_round.proofs.Growth.{products_small}
use Rattle.def_round_laws.proofs.round.sizes.play_products_are_small.Goals as goal

pub returns : goal.returns
returns c = products_small
