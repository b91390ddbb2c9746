use Rattle.def_reply.proofs.TraceLines.{never_widens}
use Rattle.def_strategy_laws.proofs.reply.bracket.trace_never_widens.Goals as goal

pub returns : goal.returns
returns c = never_widens
