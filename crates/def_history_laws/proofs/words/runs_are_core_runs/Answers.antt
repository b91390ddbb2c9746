use Rattle.def_words.proofs.CoreRuns.{core_runs}
use Rattle.def_history_laws.proofs.words.runs_are_core_runs.Goals as goal

pub returns : goal.returns
returns c = core_runs
