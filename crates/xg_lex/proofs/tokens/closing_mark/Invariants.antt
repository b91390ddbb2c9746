use Rattle.std.proofs.Common.{◌-◌, length}
use Rattle.xg_lex.proofs.Closing.{SearchesOn}
use Rattle.xg_lex.proofs.tokens.closing_mark.Given as goal

abbrev pub invariant-loop-found : goal.invariant-loop-found
invariant-loop-found l = SearchesOn l.bytes l.start l.at

abbrev pub decreases-loop-found : goal.decreases-loop-found
decreases-loop-found l = length l.bytes - l.at
