use Rattle.def_plus_run.proofs.VariantRuns.{variant_runs_sum_plans}
use Rattle.def_round_laws.proofs.plus_run.variant_runs_sum_plans.Goals as goal

pub returns : goal.returns
returns c = variant_runs_sum_plans
