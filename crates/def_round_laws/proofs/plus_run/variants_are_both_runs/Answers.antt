use Rattle.def_plus_run.proofs.VariantRuns.{variants_are_both_runs}
use Rattle.def_round_laws.proofs.plus_run.variants_are_both_runs.Goals as goal

pub returns : goal.returns
returns c = variants_are_both_runs
