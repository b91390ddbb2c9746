use Rattle.def_run.proofs.WeighedEnds.{plain_runs_sum_plans}
use Rattle.def_round_laws.proofs.run.weighed.plain_runs_sum_plans.Goals as goal

pub returns : goal.returns
returns c = plain_runs_sum_plans
