use Rattle.def_run.proofs.WeighedEnds.{weighed_ends_are_in_order}
use Rattle.def_round_laws.proofs.run.weighed.weighed_ends_are_in_order.Goals as goal

pub returns : goal.returns
returns c = weighed_ends_are_in_order
