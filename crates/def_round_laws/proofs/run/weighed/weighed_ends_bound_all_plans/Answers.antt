use Rattle.def_run.proofs.WeighedEnds.{weighed_ends_bound_all_plans}
use Rattle.def_round_laws.proofs.run.weighed.weighed_ends_bound_all_plans.Goals as goal

pub returns : goal.returns
returns c = weighed_ends_bound_all_plans
