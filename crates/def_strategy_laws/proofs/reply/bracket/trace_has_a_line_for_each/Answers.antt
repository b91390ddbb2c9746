use Rattle.def_reply.proofs.TraceLines.{trace_lines}
use Rattle.def_strategy_laws.proofs.reply.bracket.trace_has_a_line_for_each.Goals as goal

pub returns : goal.returns
returns c = trace_lines
