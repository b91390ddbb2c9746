use Rattle.def_reply.proofs.Compares.{product-below}
use Rattle.def_strategy_laws.proofs.reply.bracket.bracket_products_are_small.Goals as goal

pub returns : goal.returns
returns c = product-below
