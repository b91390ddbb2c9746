use Rattle.def_reply.proofs.BoundLaws.{floors_below}
use Rattle.def_strategy_laws.proofs.reply.floors_are_below_ceilings.Goals as goal

pub returns : goal.returns
returns c = floors_below
