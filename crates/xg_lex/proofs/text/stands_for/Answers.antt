use Rattle.std.proofs.Common.{sym, ◌∙◌, arith}
use Rattle.xg_lex.proofs.Views.{ComparesOn-escape, ComparesOn-short, ComparesOn-differs, ComparesOn-next, ComparesOn-end}
use Rattle.std.proofs.lemmas.Bool.{eq-eqb, ne_eqb}
use Rattle.xg_lex.proofs.text.stands_for.Goals as goal

pub loop-i-preserved-then-is_escape : goal.loop-i-preserved-then-is_escape
loop-i-preserved-then-is_escape c =
    ComparesOn-escape c.args.raw.now c.args.bytes.now c.loop-i.i c.loop-i.at (omega arith) c.loop-i.invariant (sym c.is_escape.ensures ∙ c.if-is_escape.true)

pub returns-then-at-bytes : goal.returns-then-at-bytes
returns-then-at-bytes c =
    ComparesOn-short c.args.raw.now c.args.bytes.now c.loop-i.i c.loop-i.at (omega arith) c.loop-i.invariant (sym c.is_escape.ensures ∙ c.if-is_escape.false)
    c.if-at-bytes.true

pub returns-then-bytes-at : goal.returns-then-bytes-at
returns-then-bytes-at c =
    ComparesOn-differs c.args.raw.now c.args.bytes.now c.loop-i.i c.loop-i.at (omega arith) c.loop-i.invariant (sym c.is_escape.ensures ∙ c.if-is_escape.false)
    (omega (arith, c.loop-i.invariant.within, c.if-at-bytes.false)) (ne_eqb _ _ c.if-bytes-at.true)

pub loop-i-preserved : goal.loop-i-preserved
loop-i-preserved c =
    ComparesOn-next c.args.raw.now c.args.bytes.now c.loop-i.i c.loop-i.at (omega arith) c.loop-i.invariant (sym c.is_escape.ensures ∙ c.if-is_escape.false)
    (omega (arith, c.loop-i.invariant.within, c.if-at-bytes.false)) (eq-eqb _ _ c.if-bytes-at.false)

pub returns : goal.returns
returns c = ComparesOn-end c.args.raw.now c.args.bytes.now c.loop-i.i c.loop-i.at (omega arith) c.loop-i.invariant
