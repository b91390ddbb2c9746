use Rattle.std.proofs.Common.{[], sym, refl, ◌∙◌}
use Rattle.std.proofs.lemmas.Bool.{eqb-true}
use Rattle.xg_lex.proofs.Escapes.{StandsFor-start, StandsFor-end, unescaped-stays}
use Rattle.xg_lex.proofs.Marks.{mark_stays}
use Rattle.xg_lex.proofs.text.first_mark.Goals as goal

pub returns-then-is_empty-clause-plain : goal.returns-then-is_empty-clause-plain
returns-then-is_empty-clause-plain c unmarked inside = unescaped-stays c.args.raw.now (eqb-true _ _ (sym c.is_empty.ensures ∙ c.if-is_empty.true))

pub returns-in-None-clause-plain : goal.returns-in-None-clause-plain
returns-in-None-clause-plain c unmarked inside =
    sym (StandsFor-end c.args.raw.now 0 [] c.args.raw.now refl (StandsFor-start c.args.raw.now inside) c.in-None.ensures)

pub returns-in-Some-clause-marked : goal.returns-in-Some-clause-marked
returns-in-Some-clause-marked c marked =
    mark_stays c.in-Some.mark c.args.raw.now c.in-Some.ensures.0.high (eqb-true _ 34 c.in-Some.ensures.1)
