use Rattle.xg_lex.proofs.Views.{ComparesOn}
use Rattle.xg_lex.proofs.text.stands_for.Given as goal

abbrev pub invariant-loop-i : goal.invariant-loop-i
invariant-loop-i l = ComparesOn l.raw l.bytes l.i l.at
