use Rattle.def_run.proofs.RunLaws.{ends_are_in_order}
use Rattle.def_round_laws.proofs.run.ends_are_in_order.Goals as goal

pub returns : goal.returns
returns c = ends_are_in_order
