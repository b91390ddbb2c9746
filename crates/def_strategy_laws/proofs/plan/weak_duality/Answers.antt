use Rattle.def_plan.proofs.Duality.{weak_duality_lem}
use Rattle.def_strategy_laws.proofs.plan.weak_duality.Goals as goal

pub returns : goal.returns
returns c = weak_duality_lem
