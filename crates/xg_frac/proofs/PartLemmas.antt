-- Which parts make a fraction.
use Rattle.std.proofs.Common.{◌≡◌, ℕ, ◌/◌, ◌^◌, ◌<◌, ◌≤◌, Bool, true, ◌*◌, ℤ, pos, ◌+ℤ◌, ◌*ℤ◌, ◌≤ℤ◌, to_z, of_z, FitsSigned, unsigned_abs, refl, sym, ap, ◌∙◌}
use Rattle.std.proofs.Common.{subst, Option, Some, None, Result, ◌⊎◌, ⊎_elim, arith}
use Rattle.std.specs.Prelude.{IsTrue, nat_le, SomeIff, OkIff, negsuc}
use Rattle.std.specs.Option.{ok_or}
use lib.Signed.{lt_z}
use Rattle.std.proofs.lemmas.Bool.{and_parts, and_from, leb-true, le-leb, le-ltb}
use Rattle.std.specs.Int.{w128}
use Rattle.std.proofs.lemmas.Int.{ints, to_z-of_z, fits_signed_mul, unsigned_abs-mul}
use Rattle.std.proofs.lemmas.Nat.{mul-le}
use Rattle.std.proofs.lemmas.Nat.Gcd.{IsGcd-swap, same_from_IsGcd}
use Rattle.std.proofs.Math.Nat.{mul-pos}
use Rattle.def_fraction.specs.Divisors.{gcd}
use Rattle.def_fraction.specs.Fraction.{Fraction, IsInLowestTerms, fraction_of, signed, whole_number, fits}
use Rattle.def_fraction.proofs.DivisorLemmas.{IsGcd-gcd, gcd-one, gcd-with_one}
use Rattle.def_fraction.proofs.FractionLemmas.{fraction_of-reduced, fraction_of-signed, fraction_of-lowest, unsigned_abs-signed}
use Rattle.xg_frac.specs.Parts.{AreParts, fraction_from}

-- the greatest common divisor is the same in either order
pub gcd-swap : (a b : ℕ) → gcd b a ≡ gcd a b
gcd-swap a b = same_from_IsGcd a b _ _ (IsGcd-swap b a _ (IsGcd-gcd b a)) (IsGcd-gcd a b)

pub fits-small : (num : ℤ) (den : ℕ) → unsigned_abs num ≤ 2 ^ 62 → den ≤ 2 ^ 62
    → fits (record { num = num; den = den }) ≡ true
fits-small num den p q = and_from _ _ (le-leb (unsigned_abs num) (2 ^ 62) p) (le-leb den (2 ^ 62) q)

-- 1 over a number from 1 to below 2 ^ 32 is a fraction that fits
pub AreParts-one_over : (n : ℕ) → 1 ≤ n → n < 2 ^ 32 → AreParts (pos 1) (pos n)
AreParts-one_over n h k = record {
  positive = omega (arith, ints);
  lowest = record { positive = h; coprime = gcd-one n };
  small = fits-small (pos 1) n (omega arith) (omega arith);
}

-- the parts of a fraction that fits
pub AreParts-reduced : (negative : Bool) (n d : ℕ) → 1 ≤ d → n / gcd n d ≤ 2 ^ 62 → d / gcd n d ≤ 2 ^ 62
    → AreParts (signed negative (n / gcd n d)) (pos (d / gcd n d))
AreParts-reduced negative n d h p q =
    let known = fraction_of-reduced (signed negative n) d h in
    let lowest = subst IsInLowestTerms (fraction_of-signed negative n d) known.lowest in
    let some = lowest.positive in
    record {
      positive = omega (arith, ints);
      lowest = lowest;
      small = fits-small (signed negative (n / gcd n d)) (d / gcd n d) (omega (arith, unsigned_abs-signed negative (n / gcd n d))) q;
    }

-- a fraction that fits, by its parts: g is the common divisor, and z and k are the parts as they are kept
pub AreParts-from_divisor : (negative : Bool) (n d g : ℕ) (z k : ℤ) → 1 ≤ d → g ≡ gcd n d → z ≡ signed negative (n / g)
    → k ≡ pos (d / g) → n / g ≤ 2 ^ 62 → d / g ≤ 2 ^ 62 → AreParts z k
AreParts-from_divisor negative n d g z k h e za ka p q =
    let common = AreParts-reduced negative n d h (subst (λ (x : ℕ). n / x ≤ 2 ^ 62) e p) (subst (λ (x : ℕ). d / x ≤ 2 ^ 62) e q) in
    let nums : signed negative (n / gcd n d) ≡ z = ap (λ x. signed negative (n / x)) (sym e) ∙ sym za in
    let dens : pos (d / gcd n d) ≡ k = ap (λ x. pos (d / x)) (sym e) ∙ sym ka in
    subst (λ (x : ℤ). AreParts z x) dens (subst (λ (x : ℤ). AreParts x (pos (d / gcd n d))) nums common)

-- both parts over their common divisor are the fraction in lowest terms
pub view-from_divisor : (negative : Bool) (n d g : ℕ) (z k : ℤ) → g ≡ gcd n d → z ≡ signed negative (n / g)
    → k ≡ pos (d / g) → fraction_from z k ≡ fraction_of (signed negative n) d
view-from_divisor negative n d g z k e za ka =
    let make : ℤ → ℕ → Fraction = λ m x. record { num = m; den = x } in
    ap (λ m. make m (unsigned_abs k)) za ∙ ap (λ x. make (signed negative (n / g)) (unsigned_abs x)) ka ∙ ap (λ x. make (signed negative (n / x)) (d / x)) e
    ∙ sym (fraction_of-signed negative n d)

-- where a part over the common divisor is past the limit, the fraction doesn't fit
pub over_limit : (negative : Bool) (n d g : ℕ) → g ≡ gcd n d → (2 ^ 62 < n / g) ⊎ (2 ^ 62 < d / g)
    → fits (fraction_of (signed negative n) d) ≡ true → ⊥
over_limit negative n d g e h w =
    let known : fits (record { num = signed negative (n / gcd n d); den = d / gcd n d }) ≡ true = ap fits (sym (fraction_of-signed negative n d)) ∙ w in
    let tests = and_parts (nat_le (unsigned_abs (signed negative (n / gcd n d))) (2 ^ 62)) (nat_le (d / gcd n d) (2 ^ 62)) known in
    let above : unsigned_abs (signed negative (n / gcd n d)) ≤ 2 ^ 62 = leb-true _ _ tests.0 in
    let below : d / gcd n d ≤ 2 ^ 62 = leb-true _ _ tests.1 in
    let num_fits : n / g ≤ 2 ^ 62 = subst (λ (x : ℕ). n / x ≤ 2 ^ 62) (sym e) (omega (arith, unsigned_abs-signed negative (n / gcd n d))) in
    let den_fits : d / g ≤ 2 ^ 62 = subst (λ (x : ℕ). d / x ≤ 2 ^ 62) (sym e) below in
    ⊎_elim (λ p. omega arith) (λ p. omega arith) h

-- ---- a fraction with a sign of its own

-- a number is that of its sign and its size
pub signed-back : (z : ℤ) → signed (lt_z z (pos 0)) (unsigned_abs z) ≡ z
signed-back (pos n) = ap (λ b. signed b n) (le-ltb n 0 (omega arith))
signed-back (negsuc n) = refl

ok_if-from_some_if : {E : Type 0} (o : Option Fraction) (e : E) (P : Type 0) (f : Fraction) → SomeIff o P f
    → OkIff (ok_or o e) P f
ok_if-from_some_if None e P f h = h
ok_if-from_some_if (Some x) e P f h = h

-- what is computed from a sign and two sizes is the answer for the fraction that they are
pub in_lowest_terms : {E : Type 0} (r : Result Fraction E) (o : Option Fraction) (e : E) (num z : ℤ) (n d k : ℕ)
    → r ≡ ok_or o e → z ≡ num → n ≡ unsigned_abs z → d ≡ k
    → SomeIff o (IsTrue (fits (fraction_of (signed (lt_z z (pos 0)) n) d))) (fraction_of (signed (lt_z z (pos 0)) n) d)
    → OkIff r (IsTrue (fits (fraction_of num k))) (fraction_of num k)
in_lowest_terms r o e num z n d k answer same size below h =
    let value : fraction_of (signed (lt_z z (pos 0)) n) d ≡ fraction_of num k =
    ap (λ m. fraction_of (signed (lt_z z (pos 0)) m) d) size ∙ ap (λ m. fraction_of m d) (signed-back z ∙ same) ∙ ap (fraction_of num) below in
    let known = subst (λ (f : Fraction). SomeIff o (IsTrue (fits f)) f) value h in
    subst (λ (x : Result Fraction _). OkIff x (IsTrue (fits (fraction_of num k))) (fraction_of num k)) (sym answer) (ok_if-from_some_if o e _ _ known)

-- a whole number over 1 is that whole number
pub fraction_of-whole : (n : ℤ) → fraction_of n 1 ≡ whole_number n
fraction_of-whole n = fraction_of-lowest (whole_number n) (record { positive = omega arith; coprime = gcd-with_one (unsigned_abs n) })

-- the answer for a fraction is the answer for each that equals it
pub ok_if-at : {E : Type 0} (r : Result Fraction E) (f g : Fraction) → f ≡ g → OkIff r (IsTrue (fits f)) f
    → OkIff r (IsTrue (fits g)) g
ok_if-at r f g e h = subst (λ (x : Fraction). OkIff r (IsTrue (fits x)) x) e h

-- ---- products of parts

fits_mul : (x y : ℤ) → unsigned_abs x ≤ 2 ^ 62 → unsigned_abs y ≤ 2 ^ 62 → FitsSigned w128 (x *ℤ y)
fits_mul x y p q = fits_signed_mul w128 x y (2 ^ 62) (2 ^ 62) p q (omega arith)

-- a product of two parts within the limit is exact in 128 bits
pub product-value : (x y : ℤ) → unsigned_abs x ≤ 2 ^ 62 → unsigned_abs y ≤ 2 ^ 62 → FitsSigned w128 x
    → FitsSigned w128 y → to_z w128 (of_z w128 (to_z w128 (of_z w128 x) *ℤ to_z w128 (of_z w128 y))) ≡ x *ℤ y
product-value x y p q fx fy =
    ap (λ m. to_z w128 (of_z w128 (m *ℤ to_z w128 (of_z w128 y)))) (to_z-of_z w128 x fx) ∙ ap (λ m. to_z w128 (of_z w128 (x *ℤ m))) (to_z-of_z w128 y fy)
    ∙ to_z-of_z w128 (x *ℤ y) (fits_mul x y p q)

-- a product of two parts within the limit is at most 2 ^ 124
pub product-size : (x y : ℤ) → unsigned_abs x ≤ 2 ^ 62 → unsigned_abs y ≤ 2 ^ 62 → unsigned_abs (x *ℤ y) ≤ 2 ^ 124
product-size x y p q = omega (arith, unsigned_abs-mul x y, mul-le (unsigned_abs x) (unsigned_abs y) (2 ^ 62) (2 ^ 62) p q)

-- a product of two positive numbers is positive
pub product-positive : (x y : ℤ) → pos 1 ≤ℤ x → pos 1 ≤ℤ y → pos 1 ≤ℤ (x *ℤ y)
product-positive (pos m) (pos n) p q =
    let some : 0 < m * n = mul-pos {m = m} {n = n} (omega (arith, ints)) (omega (arith, ints)) in
    omega (arith, ints)
product-positive (pos m) (negsuc n) p q = absurd (omega (arith, ints))
product-positive (negsuc m) y p q = absurd (omega (arith, ints))

-- the numerator of a sum, as it is computed
pub sum-value : (x y s t : ℤ) → unsigned_abs x ≤ 2 ^ 124 → unsigned_abs y ≤ 2 ^ 124 → x ≡ s → y ≡ t
    → to_z w128 (of_z w128 (to_z w128 (of_z w128 x) +ℤ to_z w128 (of_z w128 y))) ≡ s +ℤ t
sum-value x y s t p q e f = rw (← e, ← f) (omega (arith, ints))

-- a product of two factors that fit 128 bits is that of the numbers that they are
pub product-at : (p x y a b : ℤ) → p ≡ to_z w128 (of_z w128 x) *ℤ to_z w128 (of_z w128 y) → FitsSigned w128 x
    → FitsSigned w128 y → x ≡ a → y ≡ b → p ≡ a *ℤ b
product-at p x y a b e fx fy ex ey =
    e ∙ ap (λ m. m *ℤ to_z w128 (of_z w128 y)) (to_z-of_z w128 x fx ∙ ex) ∙ ap (λ m. a *ℤ m) (to_z-of_z w128 y fy ∙ ey)
