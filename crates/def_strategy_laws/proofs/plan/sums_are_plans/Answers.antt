use Rattle.def_plan.proofs.Adding.{added-is_plan, at-added, zeros-added}
use Rattle.def_strategy_laws.proofs.plan.sums_are_plans.Goals as goal

pub returns : goal.returns
returns c = record { is_plan = added-is_plan; each_number = at-added; zeros = zeros-added }
