-- How far two totals are apart, and how that compares.
use Rattle.std.proofs.Common.{◌≡◌, ◌∙◌, ◌⊎◌, ℕ, ◌*◌, ◌≤◌, ℤ, pos, ◌-ℤ◌, ◌*ℤ◌, ◌≤ℤ◌, ap, sym, subst, arith, inl, inr}
use Rattle.std.specs.Prelude.{◌↔◌, ◌<ℤ◌, true, false, int_lt}
use Rattle.std.proofs.lemmas.Int.{ints}
use Rattle.std.proofs.Math.Nat.{mul_assoc, mul_comm}
use Rattle.def_sums.proofs.RingLaws.{*ℤ-mono_right, zero-*ℤ, ≤ℤ_trans, ≤ℤ_same}
use Rattle.def_reply.proofs.Compares.{int_lt_tells}
use Rattle.xg_close_run.specs.Searched.{IsGap}

-- where a total is above the other, their difference is none below 0
crossed_below : (low high : ℤ) (d : ℕ) → high ≤ℤ low → ((high -ℤ low) *ℤ pos d) ≤ℤ pos 0
crossed_below low high d crossed =
    ≤ℤ_trans ((high -ℤ low) *ℤ pos d) (pos 0 *ℤ pos d) (pos 0)
    (*ℤ-mono_right d (high -ℤ low) (pos 0) (omega (arith, ints, crossed)))
    (≤ℤ_same (pos 0 *ℤ pos d) (pos 0) (zero-*ℤ (pos d)))

module _ (low high : ℤ) (gap den per num scale : ℕ) (is : IsGap low high gap) where
  abbrev AreCompared : Type 0
  AreCompared = (gap * per * den ≤ num * scale) ↔ (((high -ℤ low) *ℤ pos (den * per)) ≤ℤ (pos num *ℤ pos scale))

  -- the products are those of the parts
  turned : gap * per * den ≡ gap * (den * per)
  turned = omega (arith, mul_assoc gap per den, mul_comm per den, mul_assoc gap den per)

  apart : low ≤ℤ high → AreCompared
  apart order = subst (λ (z : ℤ). (gap * per * den ≤ num * scale) ↔ ((z *ℤ pos (den * per)) ≤ℤ (pos num *ℤ pos scale)))
      (is.apart order) (λ h. omega (arith, ints, turned, h), λ h. omega (arith, ints, turned, h))

  crossed : high ≤ℤ low → AreCompared
  crossed order =
      let none : gap * per * den ≡ 0 = ap (λ n. n * per * den) (is.crossed order) ∙ omega arith in
      let below : ((high -ℤ low) *ℤ pos (den * per)) ≤ℤ pos 0 = crossed_below low high (den * per) order in (
        λ _. ≤ℤ_trans ((high -ℤ low) *ℤ pos (den * per)) (pos 0) (pos num *ℤ pos scale) below (omega (arith, ints)),
        λ _. omega (arith, none),
      )

  -- the gap times a number compares as the difference does
  pub gap_compares : AreCompared
  gap_compares = by_order (int_lt_tells high low)
    where
      by_order : ((int_lt high low ≡ true) × (high <ℤ low)) ⊎ ((int_lt high low ≡ false) × (low ≤ℤ high)) → AreCompared
      by_order (inl h) = crossed (omega (arith, ints, h.1))
      by_order (inr h) = apart h.1

-- a number of parts that isn't below the gap isn't below the difference
pub rounded_is_wide : (low high : ℤ) (gap den num scale : ℕ) → IsGap low high gap → gap * den ≤ num * scale
    → ((high -ℤ low) *ℤ pos den) ≤ℤ (pos num *ℤ pos scale)
rounded_is_wide low high gap den num scale is enough =
    let one : den * 1 ≡ den = omega arith in
    let same : gap * 1 ≡ gap = omega arith in
    let also : gap * 1 * den ≤ num * scale = subst (λ (n : ℕ). n * den ≤ num * scale) (sym same) enough in
    subst (λ (n : ℕ). ((high -ℤ low) *ℤ pos n) ≤ℤ (pos num *ℤ pos scale)) one
    ((gap_compares low high gap den 1 num scale is).0 also)
