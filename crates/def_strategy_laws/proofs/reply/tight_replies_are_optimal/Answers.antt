use Rattle.def_reply.proofs.BoundLaws.{tight_optimal}
use Rattle.def_strategy_laws.proofs.reply.tight_replies_are_optimal.Goals as goal

pub returns : goal.returns
returns c = tight_optimal
