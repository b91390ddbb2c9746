use Rattle.std.proofs.Common.{◌-◌, length}
use Rattle.xg_lex.proofs.Escapes.{IsCopiedSoFar}
use Rattle.xg_lex.proofs.text.without_escapes.Given as goal

abbrev pub invariant-loop-found : goal.invariant-loop-found
invariant-loop-found l = IsCopiedSoFar l.raw l.at l.bytes.items

abbrev pub decreases-loop-found : goal.decreases-loop-found
decreases-loop-found l = length l.raw - l.at
