use Rattle.def_reply.proofs.ReplySizes.{bounds_small}
use Rattle.def_strategy_laws.proofs.reply.bounds_are_small.Goals as goal

pub returns : goal.returns
returns c = bounds_small
