use Rattle.std.proofs.Common.{◌≡◌, ap, sym, ◌∙◌, pos, true, false}
use Rattle.std.proofs.lemmas.Int.{to_z-of_z}
use lib.Signed.{lt_z}
use mir.Syntax.{w128}
use Rattle.def_words.specs.Amounts.{word_at}
use Rattle.def_words.proofs.Moves.{side_positive, side_negative}
use Rattle.xg_atomic.proofs.steps.word_of.Goals as goal

pub returns-then-amount-gt0 : goal.returns-then-amount-gt0
returns-then-amount-gt0 c =
    let same = to_z-of_z w128 c.args.amount c.ranges.amount in
    let above : lt_z (pos 0) c.args.amount ≡ true = ap (lt_z (pos 0)) (sym same) ∙ c.if-amount-gt0.true in
    ap (λ side. word_at side c.args.row) (sym (side_positive c.args.amount above))

pub returns-else-amount-gt0 : goal.returns-else-amount-gt0
returns-else-amount-gt0 c =
    let same = to_z-of_z w128 c.args.amount c.ranges.amount in
    let not_above : lt_z (pos 0) c.args.amount ≡ false = ap (lt_z (pos 0)) (sym same) ∙ c.if-amount-gt0.false in
    ap (λ side. word_at side c.args.row) (sym (side_negative c.args.amount not_above c.requires))
