use Rattle.def_run.proofs.WeighedEnds.{weighed_runs_have_ends}
use Rattle.def_round_laws.proofs.run.weighed.weighed_runs_have_ends.Goals as goal

pub returns : goal.returns
returns c = weighed_runs_have_ends
