use Rattle.xg_bracket.proofs.Copies.{IsCopiedUpTo}
use Rattle.xg_search.proofs.keeping.copy_reply.Given as goal

abbrev pub invariant-loop-set : goal.invariant-loop-set
invariant-loop-set l = IsCopiedUpTo l.reply.reply.sets l.set l.into.reply.sets
