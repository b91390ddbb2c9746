use Rattle.def_words_runs.proofs.Runs.{run_ends}
use Rattle.def_words_runs.proofs.one_run_ends.Goals as goal

pub returns : goal.returns
returns c = run_ends
