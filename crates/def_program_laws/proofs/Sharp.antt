-- A printed bound is the best of those that hold of its plan: the printed reply attains it.
use Rattle.std.proofs.Common.{◌≡◌, ℕ, ◌*◌, ◌≤◌, ℤ, pos, ◌*ℤ◌, ◌≤ℤ◌, sym, ap, ◌∙◌, subst, arith}
use Rattle.std.proofs.Math.Nat.{mul-one}
use Rattle.std.proofs.lemmas.Nat.{mul-le}
use Rattle.def_sums.proofs.RingLaws.{*ℤ-cancel_right, *ℤ-mono_right}
use Rattle.def_fraction.specs.Fraction.{Fraction}
use Rattle.def_fraction.proofs.OrderLemmas.{times_turned}
use Rattle.def_fraction.specs.Order.{IsAtMost}
use Rattle.def_cert_verdict.specs.Certificate.{PrintedBounds, printed_numbers}
use Rattle.def_plan.specs.Weighed.{WeighedGame}
use Rattle.def_cert_verdict.specs.Laws.{ConcedesAtMost, GetsAtLeast}
use Rattle.def_plus.specs.declared.Variant.{Variant}
use Rattle.def_cert_accepted.specs.Bounds.{BoundsHold}
use Rattle.def_program_laws.specs.Bounds.{BoundsAreSharp}

-- ---- fractions

-- f is total / scale, and g is at most that
module _ (f g : Fraction) (total : ℤ) (scale : ℕ) (some : 1 ≤ scale) (value : f.num *ℤ pos scale ≡ total *ℤ pos f.den)
  where
    -- both sides by the other fraction's denominator
    scaled : (f.num *ℤ pos g.den) *ℤ pos scale ≡ (total *ℤ pos g.den) *ℤ pos f.den
    scaled =
        times_turned f.num g.den scale ∙ ap (λ (z : ℤ). z *ℤ pos g.den) value ∙ times_turned total f.den g.den

    at_most_value : (g.num *ℤ pos scale) ≤ℤ (total *ℤ pos g.den) → IsAtMost g f
    at_most_value below =
        *ℤ-cancel_right scale (g.num *ℤ pos f.den) (f.num *ℤ pos g.den) some
        (subst (λ (z : ℤ). z ≤ℤ ((f.num *ℤ pos g.den) *ℤ pos scale)) (times_turned g.num scale f.den)
        (subst (λ (z : ℤ). ((g.num *ℤ pos scale) *ℤ pos f.den) ≤ℤ z) (sym scaled)
        (*ℤ-mono_right f.den (g.num *ℤ pos scale) (total *ℤ pos g.den) below)))

    at_least_value : (total *ℤ pos g.den) ≤ℤ (g.num *ℤ pos scale) → IsAtMost f g
    at_least_value above =
        *ℤ-cancel_right scale (f.num *ℤ pos g.den) (g.num *ℤ pos f.den) some
        (subst (λ (z : ℤ). ((f.num *ℤ pos g.den) *ℤ pos scale) ≤ℤ z) (times_turned g.num scale f.den)
        (subst (λ (z : ℤ). z ≤ℤ ((g.num *ℤ pos scale) *ℤ pos f.den)) (sym scaled)
        (*ℤ-mono_right f.den (total *ℤ pos g.den) (g.num *ℤ pos scale) above)))

-- ---- bounds

module _ (game : WeighedGame) (variant : Variant) (scale : ℕ) (b : PrintedBounds) (bound : Fraction)
    (some_unit : 1 ≤ game.unit) (holds : BoundsHold game variant scale b) where
  some_product : (root : ℕ) → 1 ≤ root → 1 ≤ game.unit * root
  some_product root some = omega (arith, mul-le 1 1 game.unit root some_unit some)

  low_greatest : GetsAtLeast game b.plan_one.root (printed_numbers b.plan_one) bound → IsAtMost bound b.low
  low_greatest gets =
      let units : ℕ = game.unit * b.plan_one.root in
      let attained = holds.attained.floor_attained in
      at_most_value b.low bound b.reply_two.total units (some_product b.plan_one.root holds.lower.is_plan.some_root)
      holds.attained.low.value
      (subst (λ n. (bound.num *ℤ pos n) ≤ℤ (b.reply_two.total *ℤ pos bound.den)) (mul-one units)
      (subst (λ (z : ℤ). (bound.num *ℤ pos (units * 1)) ≤ℤ (z *ℤ pos bound.den)) attained.pays
      (gets 1 _ attained.is_plan)))

  high_least : ConcedesAtMost game b.plan_two.root (printed_numbers b.plan_two) bound → IsAtMost b.high bound
  high_least concedes =
      let units : ℕ = game.unit * b.plan_two.root in
      let attained = holds.attained.ceiling_attained in
      at_least_value b.high bound b.reply_one.total units (some_product b.plan_two.root holds.upper.is_plan.some_root)
      holds.attained.high.value
      (subst (λ n. (b.reply_one.total *ℤ pos bound.den) ≤ℤ (bound.num *ℤ pos n)) (mul-one units)
      (subst (λ (z : ℤ). (z *ℤ pos bound.den) ≤ℤ (bound.num *ℤ pos (units * 1))) attained.pays
      (concedes 1 _ attained.is_plan)))

-- LOW is the greatest fraction that its plan gets at least, and HIGH the least that its plan concedes at most
pub sharp : BoundsAreSharp
sharp = record { low = low_greatest; high = high_least }
