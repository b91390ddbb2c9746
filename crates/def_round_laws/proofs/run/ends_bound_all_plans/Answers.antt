use Rattle.def_run.proofs.RunLaws.{ends_bound_all_plans}
use Rattle.def_round_laws.proofs.run.ends_bound_all_plans.Goals as goal

pub returns : goal.returns
returns c = ends_bound_all_plans
