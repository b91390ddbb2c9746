use Rattle.def_reply.proofs.BoundLaws.{best_bounds}
use Rattle.def_strategy_laws.proofs.reply.best_replies_give_bounds.Goals as goal

pub returns : goal.returns
returns c = best_bounds
