use Rattle.def_plus_run.proofs.PlusRuns.{plus_runs_sum_plans}
use Rattle.def_round_laws.proofs.plus_run.plus_runs_sum_plans.Goals as goal

pub returns : goal.returns
returns c = plus_runs_sum_plans
