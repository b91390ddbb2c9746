use Rattle.def_plan.proofs.Duality.{complementary_slackness_lem}
use Rattle.def_strategy_laws.proofs.plan.complementary_slackness.Goals as goal

pub returns : goal.returns
returns c = complementary_slackness_lem
