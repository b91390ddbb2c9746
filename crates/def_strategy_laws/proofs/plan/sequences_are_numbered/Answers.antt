use Rattle.def_plan.proofs.Places.{numbered}
use Rattle.def_strategy_laws.proofs.plan.sequences_are_numbered.Goals as goal

pub returns : goal.returns
returns c = numbered
