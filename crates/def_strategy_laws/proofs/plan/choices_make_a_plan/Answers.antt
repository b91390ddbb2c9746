use Rattle.def_plan.proofs.Choices.{pure_plan-is_plan, pure_plan-follows, pure_plan-only}
use Rattle.def_strategy_laws.proofs.plan.choices_make_a_plan.Goals as goal

pub returns : goal.returns
returns c = record { is_plan = pure_plan-is_plan; follows = pure_plan-follows; only = pure_plan-only }
