use Rattle.def_reply.proofs.TraceLines.{trace_looks_back}
use Rattle.def_strategy_laws.proofs.reply.bracket.trace_looks_back.Goals as goal

pub returns : goal.returns
returns c = trace_looks_back
