use Rattle.def_run.proofs.RunLaws.{runs_have_ends}
use Rattle.def_round_laws.proofs.run.runs_have_ends.Goals as goal

pub returns : goal.returns
returns c = runs_have_ends
