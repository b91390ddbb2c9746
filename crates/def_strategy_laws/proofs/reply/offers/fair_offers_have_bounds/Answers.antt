use Rattle.def_reply.proofs.KeptEnds.{fair_offers_have_bounds}
use Rattle.def_strategy_laws.proofs.reply.offers.fair_offers_have_bounds.Goals as goal

pub returns : goal.returns
returns c = fair_offers_have_bounds
