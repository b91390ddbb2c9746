use Rattle.def_reply.proofs.KeptEnds.{first_offer_makes_ends}
use Rattle.def_strategy_laws.proofs.reply.offers.first_offer_makes_ends.Goals as goal

pub returns : goal.returns
returns c = first_offer_makes_ends
