use Rattle.def_reply.proofs.TraceLines.{ends_never_worsen}
use Rattle.def_strategy_laws.proofs.reply.bracket.ends_never_worsen.Goals as goal

pub returns : goal.returns
returns c = ends_never_worsen
