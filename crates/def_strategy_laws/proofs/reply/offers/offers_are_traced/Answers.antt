use Rattle.def_reply.proofs.KeptEnds.{offers_are_traced}
use Rattle.def_strategy_laws.proofs.reply.offers.offers_are_traced.Goals as goal

pub returns : goal.returns
returns c = offers_are_traced
