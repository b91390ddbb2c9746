use Rattle.def_plus_run.proofs.PlusRuns.{plus_bounds_are_small}
use Rattle.def_round_laws.proofs.plus_run.plus_bounds_are_small.Goals as goal

pub returns : goal.returns
returns c = plus_bounds_are_small
