use Rattle.def_reply.proofs.BoundLaws.{attained_best}
use Rattle.def_strategy_laws.proofs.reply.attained_bounds_are_best.Goals as goal

pub returns : goal.returns
returns c = attained_best
