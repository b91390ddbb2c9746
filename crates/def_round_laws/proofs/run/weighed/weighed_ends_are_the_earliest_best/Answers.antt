use Rattle.def_run.proofs.WeighedEnds.{weighed_ends_are_the_earliest_best}
use Rattle.def_round_laws.proofs.run.weighed.weighed_ends_are_the_earliest_best.Goals as goal

pub returns : goal.returns
returns c = weighed_ends_are_the_earliest_best
