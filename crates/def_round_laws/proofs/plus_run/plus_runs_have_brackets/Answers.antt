use Rattle.def_plus_run.proofs.PlusRuns.{plus_runs_have_brackets}
use Rattle.def_round_laws.proofs.plus_run.plus_runs_have_brackets.Goals as goal

pub returns : goal.returns
returns c = plus_runs_have_brackets
