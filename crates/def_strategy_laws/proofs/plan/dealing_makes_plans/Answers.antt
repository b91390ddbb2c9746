use Rattle.def_plan.proofs.Dealing.{dealt-is_plan}
use Rattle.def_plan.proofs.Rules.{dealt-follows, dealt-only}
use Rattle.def_strategy_laws.proofs.plan.dealing_makes_plans.Goals as goal

pub returns : goal.returns
returns c = record {
  is_plan = λ sets root rules order some whole. dealt-is_plan root sets rules some order whole;
  follows = dealt-follows;
  only = dealt-only;
}
