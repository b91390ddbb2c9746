use Rattle.def_run.proofs.RunLaws.{evaluations_are_bounds}
use Rattle.def_round_laws.proofs.run.evaluations_are_bounds.Goals as goal

pub returns : goal.returns
returns c = evaluations_are_bounds
