use Rattle.def_reply.proofs.BoundLaws.{best_optimal}
use Rattle.def_strategy_laws.proofs.reply.best_replies_are_optimal.Goals as goal

pub returns : goal.returns
returns c = best_optimal
