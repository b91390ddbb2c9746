use Rattle.def_reply.proofs.KeptEnds.{kept_ends_are_bounds}
use Rattle.def_strategy_laws.proofs.reply.offers.kept_ends_are_bounds.Goals as goal

pub returns : goal.returns
returns c = kept_ends_are_bounds
