use Rattle.def_plan.proofs.Adding.{cleared_plans_add_nothing}
use Rattle.def_strategy_laws.proofs.plan.cleared_plans_add_nothing.Goals as goal

pub returns : goal.returns
returns c = cleared_plans_add_nothing
