use Rattle.def_run.proofs.WeighedEnds.{weighed_evaluations_are_bounds}
use Rattle.def_round_laws.proofs.run.weighed.weighed_evaluations_are_bounds.Goals as goal

pub returns : goal.returns
returns c = weighed_evaluations_are_bounds
