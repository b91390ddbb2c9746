use Rattle.def_run.proofs.WeighedTraces.{weighed_trace_looks_back}
use Rattle.def_round_laws.proofs.run.weighed.weighed_trace_looks_back.Goals as goal

pub returns : goal.returns
returns c = weighed_trace_looks_back
