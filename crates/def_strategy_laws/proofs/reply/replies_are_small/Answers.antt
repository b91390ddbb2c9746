use Rattle.def_reply.proofs.ReplySizes.{values-below, worths-below, total-below}
use Rattle.def_strategy_laws.proofs.reply.replies_are_small.Goals as goal

pub returns : goal.returns
returns c = record { values = values-below; worths = worths-below; totals = total-below }
