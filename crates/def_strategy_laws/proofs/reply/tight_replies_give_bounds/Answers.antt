use Rattle.def_reply.proofs.BoundLaws.{tight_bounds}
use Rattle.def_strategy_laws.proofs.reply.tight_replies_give_bounds.Goals as goal

pub returns : goal.returns
returns c = tight_bounds
