-- Fractions of a small numerator, whose denominator divides a number.
use Rattle.std.proofs.Common.{◌≡◌, ℕ, ◌*◌, ◌/◌, ◌≤◌, true, sym, ap, ◌∙◌, subst, arith, le_trans, mul-le-mul, div-le_self}
use Rattle.std.specs.Prelude.{◌*ℤ◌, unsigned_abs, nat_le, ◌&&◌}
use Prim.Native.Nat.{◌∣◌}
use Rattle.std.proofs.lemmas.Bool.{le-leb}
use Rattle.std.proofs.lemmas.Int.{unsigned_abs-mul}
use Rattle.std.proofs.lemmas.Nat.Gcd.{dvd_trans, le_of_dvd}
use Rattle.std.proofs.Math.Nat.{div-mul_cancel, dvd-mul_right, mul-dvd-mul, one-dvd, one-le-mul}
use Rattle.def_fraction.specs.Divisors.{gcd}
use Rattle.def_fraction.specs.Fraction.{Fraction, fits, fraction_of, most, product_of, zero_fraction}
use Rattle.def_fraction.proofs.DivisorLemmas.{IsGcd-gcd}
use Rattle.def_fraction.proofs.FractionLemmas.{fraction_of-reduced, unsigned_abs-without_factor}

-- at most k parts, of which a divisor of m makes a whole
pub record IsPart (m k : ℕ) (f : Fraction) : Type 0 where
  pub few : unsigned_abs f.num ≤ k
  pub divides : f.den ∣ m
  pub some : 1 ≤ f.den

pub no_part : (m k : ℕ) → IsPart m k zero_fraction
no_part m k = record { few = omega arith; divides = one-dvd m; some = omega arith }

pub product_part : (m k n j : ℕ) (f g : Fraction) → IsPart m k f → IsPart n j g → IsPart (m * n) (k * j) (product_of f g)
unfolding fraction_of
product_part m k n j f g a b =
    let common = gcd (unsigned_abs (f.num *ℤ g.num)) (f.den * g.den) in
    let size : unsigned_abs (product_of f g).num ≡ unsigned_abs f.num * unsigned_abs g.num / common =
    unsigned_abs-without_factor (f.num *ℤ g.num) common ∙ ap (λ x. x / common) (unsigned_abs-mul f.num g.num) in
    let whole = div-mul_cancel common (IsGcd-gcd (unsigned_abs (f.num *ℤ g.num)) (f.den * g.den)).1 in
    let Divides : ℕ → Type 0 = λ x. (product_of f g).den ∣ x in
    let part : (product_of f g).den ∣ f.den * g.den = subst Divides whole (dvd-mul_right (f.den * g.den / common) common) in
    record {
      few = le_trans (subst (λ x. x ≤ unsigned_abs f.num * unsigned_abs g.num) (sym size) (div-le_self (unsigned_abs f.num * unsigned_abs g.num) common))
          (mul-le-mul a.few b.few);
      divides = dvd_trans (product_of f g).den part (mul-dvd-mul f.den g.den a.divides b.divides);
      some = (fraction_of-reduced (f.num *ℤ g.num) (f.den * g.den) (one-le-mul a.some b.some)).lowest.positive;
    }

-- it is within the limit, where both numbers are
pub part_fits : (m k : ℕ) (f : Fraction) → 1 ≤ m → m ≤ 16777216 → k ≤ 64 → IsPart m k f → fits f ≡ true
part_fits m k f some few small a =
    let den : f.den ≤ m = le_of_dvd some a.divides in
    let left : nat_le (unsigned_abs f.num) most ≡ true = le-leb (unsigned_abs f.num) most (omega (arith, a.few)) in
    let right : nat_le f.den most ≡ true = le-leb f.den most (omega arith) in
    ap (λ b. b && nat_le f.den most) left ∙ right
