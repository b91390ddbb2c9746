-- Two totals over one scale are as narrow as the bracket of both in lowest terms.
use Rattle.std.proofs.Common.{◌≡◌, ℕ, ◌*◌, ◌≤◌, ℤ, pos, neg_ℤ, ◌+ℤ◌, ◌-ℤ◌, ◌*ℤ◌, ◌≤ℤ◌, sym, ap, ◌∙◌, subst, arith}
use Rattle.std.proofs.lemmas.Nat.{mul-le}
use Rattle.std.proofs.Math.Nat.{mul_comm}
use Rattle.def_sums.proofs.RingLaws.{*ℤ-cancel_right, *ℤ-mono_right, +ℤ-*ℤ, neg-*ℤ}
use Rattle.def_fraction.specs.Fraction.{Fraction, fraction_of}
use Rattle.def_fraction.specs.Laws.{HasValue, ReducesExactly}
use Rattle.def_fraction.proofs.FractionLemmas.{fraction_of-reduced}
use Rattle.def_fraction.proofs.OrderLemmas.{times-times, times_turned}
use Rattle.def_cert_accepted.specs.Bounds.{difference}
use Rattle.def_close.specs.Laws.{NarrowTotalsAreNarrow}
use Rattle.def_close.specs.Narrow.{AreAsNarrow, IsAsNarrow}

-- a difference times a number
less-times : (a b c : ℤ) → (a -ℤ b) *ℤ c ≡ (a *ℤ c) -ℤ (b *ℤ c)
less-times a b c = +ℤ-*ℤ a (neg_ℤ b) c ∙ ap (λ (z : ℤ). (a *ℤ c) +ℤ z) (neg-*ℤ b c)

-- f is total / scale, also times another number
over_other : (f : Fraction) (total : ℤ) (scale other : ℕ) → HasValue f total scale
    → (f.num *ℤ pos other) *ℤ pos scale ≡ total *ℤ pos (f.den * other)
over_other f total scale other value =
    times_turned f.num other scale ∙ ap (λ (z : ℤ). z *ℤ pos other) value ∙ times-times total f.den other

module _ (width : Fraction) (scale : ℕ) (low high : ℤ) (some : 1 ≤ scale) where
  abbrev l : Fraction
  l = fraction_of low scale

  abbrev h : Fraction
  h = fraction_of high scale

  of_low : ReducesExactly low scale
  of_low = fraction_of-reduced low scale some

  of_high : ReducesExactly high scale
  of_high = fraction_of-reduced high scale some

  abbrev dens : ℕ
  dens = h.den * l.den

  -- HIGH less LOW times the scale is the difference of the totals times both denominators
  scaled : (difference h l).num *ℤ pos scale ≡ (high -ℤ low) *ℤ pos dens
  scaled =
      let first = over_other h high scale l.den of_high.exact in
      let second : (l.num *ℤ pos h.den) *ℤ pos scale ≡ low *ℤ pos dens =
      over_other l low scale h.den of_low.exact ∙ ap (λ n. low *ℤ pos n) (mul_comm l.den h.den) in
      less-times (h.num *ℤ pos l.den) (l.num *ℤ pos h.den) (pos scale)
      ∙ (λ i. first i -ℤ second i)
      ∙ sym (less-times high low (pos dens))

  some_dens : 1 ≤ dens
  some_dens = omega (arith, mul-le 1 1 h.den l.den of_high.lowest.positive of_low.lowest.positive)

  -- both sides by the width's denominator, and by the other's scale
  left : ((difference h l).num *ℤ pos width.den) *ℤ pos scale ≡ ((high -ℤ low) *ℤ pos width.den) *ℤ pos dens
  left =
      times_turned (difference h l).num width.den scale
      ∙ ap (λ (z : ℤ). z *ℤ pos width.den) scaled
      ∙ times_turned (high -ℤ low) dens width.den

  narrow : IsAsNarrow width l h → AreAsNarrow width scale low high
  narrow is =
      *ℤ-cancel_right dens ((high -ℤ low) *ℤ pos width.den) (width.num *ℤ pos scale) some_dens
      (subst (λ (z : ℤ). (((high -ℤ low) *ℤ pos width.den) *ℤ pos dens) ≤ℤ z) (times_turned width.num dens scale)
      (subst (λ (z : ℤ). z ≤ℤ ((width.num *ℤ pos dens) *ℤ pos scale)) left (*ℤ-mono_right scale _ _ is)))

  back : AreAsNarrow width scale low high → IsAsNarrow width l h
  back is =
      *ℤ-cancel_right scale ((difference h l).num *ℤ pos width.den) (width.num *ℤ pos dens) some
      (subst (λ (z : ℤ). (((difference h l).num *ℤ pos width.den) *ℤ pos scale) ≤ℤ z) (times_turned width.num scale dens)
      (subst (λ (z : ℤ). z ≤ℤ ((width.num *ℤ pos scale) *ℤ pos dens)) (sym left) (*ℤ-mono_right dens _ _ is)))

-- two totals over one scale are as narrow as their bracket
pub narrow_totals : NarrowTotalsAreNarrow
narrow_totals width scale low high some = (narrow width scale low high some, back width scale low high some)
