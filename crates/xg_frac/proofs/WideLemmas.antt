-- Which large parts make a fraction.
use Rattle.std.proofs.Common.{◌≡◌, ℕ, ◌/◌, ◌^◌, ◌≤◌, Bool, ℤ, pos, unsigned_abs, sym, ap, ◌∙◌, subst, arith}
use lib.Signed.{lt_z}
use Rattle.std.proofs.lemmas.Int.{ints}
use Rattle.std.proofs.Math.Nat.{div-le_self}
use Rattle.def_fraction.specs.Divisors.{gcd}
use Rattle.def_fraction.specs.Fraction.{IsInLowestTerms, fraction_of, signed}
use Rattle.def_fraction.proofs.DivisorLemmas.{gcd-positive}
use Rattle.def_fraction.proofs.FractionLemmas.{fraction_of-reduced, fraction_of-signed, unsigned_abs-signed}
use Rattle.xg_frac.specs.Wide.{AreWideParts}
use Rattle.xg_frac.proofs.PartLemmas.{signed-back}

-- a quotient is at most its dividend
pub quotient-le : (n g : ℕ) → 1 ≤ g → n / g ≤ n
quotient-le n g h = div-le_self n g

wide_reduced : (negative : Bool) (n d : ℕ) → 1 ≤ d → n ≤ 2 ^ 100 → d ≤ 2 ^ 100
    → AreWideParts (signed negative (n / gcd n d)) (pos (d / gcd n d))
wide_reduced negative n d h p q =
    let known = fraction_of-reduced (signed negative n) d h in
    let lowest = subst IsInLowestTerms (fraction_of-signed negative n d) known.lowest in
    let some = lowest.positive in
    let common = gcd-positive n d h in
    record {
      positive = omega (arith, ints);
      lowest = lowest;
      num_small = omega (arith, unsigned_abs-signed negative (n / gcd n d), quotient-le n (gcd n d) common);
      den_small = omega (arith, quotient-le d (gcd n d) common);
    }

-- the parts of a fraction over their common divisor, as they are kept
pub AreWideParts-from_divisor : (negative : Bool) (n d g : ℕ) (z k : ℤ) → 1 ≤ d → n ≤ 2 ^ 100 → d ≤ 2 ^ 100
    → g ≡ gcd n d → z ≡ signed negative (n / g) → k ≡ pos (d / g) → AreWideParts z k
AreWideParts-from_divisor negative n d g z k h p q e za ka =
    let nums : signed negative (n / gcd n d) ≡ z = ap (λ x. signed negative (n / x)) (sym e) ∙ sym za in
    let dens : pos (d / gcd n d) ≡ k = ap (λ x. pos (d / x)) (sym e) ∙ sym ka in
    subst (λ (x : ℤ). AreWideParts z x) dens
    (subst (λ (x : ℤ). AreWideParts x (pos (d / gcd n d))) nums (wide_reduced negative n d h p q))

-- what is computed from a sign and two sizes is the fraction that they are
pub fraction-of_sizes : (num z : ℤ) (n d k : ℕ) → z ≡ num → n ≡ unsigned_abs z → d ≡ k
    → fraction_of (signed (lt_z z (pos 0)) n) d ≡ fraction_of num k
fraction-of_sizes num z n d k same size below =
    ap (λ m. fraction_of (signed (lt_z z (pos 0)) m) d) size ∙ ap (λ m. fraction_of m d) (signed-back z ∙ same)
    ∙ ap (fraction_of num) below
