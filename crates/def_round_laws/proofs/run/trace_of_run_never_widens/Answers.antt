use Rattle.def_run.proofs.RunLaws.{trace_of_run_never_widens}
use Rattle.def_round_laws.proofs.run.trace_of_run_never_widens.Goals as goal

pub returns : goal.returns
returns c = trace_of_run_never_widens
