use Rattle.def_reply.proofs.KeptEnds.{offers_keep_the_ends}
use Rattle.def_strategy_laws.proofs.reply.offers.offers_keep_the_ends.Goals as goal

pub returns : goal.returns
returns c = offers_keep_the_ends
