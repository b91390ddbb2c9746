use Rattle.std.proofs.Common.{◌≡◌, ◌∙◌, ap, refl, subst, sym}
use Rattle.std.specs.Prelude.{IsTrue}
use Rattle.def_fraction.specs.Fraction.{Fraction, fits, sum_of, zero_fraction, is_zero}
use Rattle.def_game_scale.proofs.Expected.{lowest-sum}
use Rattle.xg_scale.proofs.FractionParts.{is_nothing, opposite_sum}
use Rattle.xg_scale.proofs.leaf.together.Goals as goal

pub returns-then-are_opposite : goal.returns-then-are_opposite
returns-then-are_opposite c =
    let opposite = c.if-are_opposite.ensures.0 refl in
    let sum : Fraction = sum_of c.args.a c.args.b in
    let known : sum_of c.known-a.result c.known-b.result ≡ sum = λ i. sum_of (c.known-a.ensures.same i) (c.known-b.ensures.same i) in
    let same : sum ≡ zero_fraction =
    is_nothing sum (lowest-sum c.args.a c.args.b c.known-a.ensures.lowest.positive c.known-b.ensures.lowest.positive)
    (ap is_zero (sym known) ∙ opposite_sum c.known-a.result c.known-b.result opposite.0 opposite.1) in
    (subst (λ f. IsTrue (fits f)) (sym same) refl, c.zero.ensures ∙ sym same)
