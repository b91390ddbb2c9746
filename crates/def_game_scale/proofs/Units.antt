-- The least common multiple of the denominators is the least unit.
use Rattle.std.proofs.Common.{◌≡◌, ℕ, zero, suc, ◌*◌, ◌/◌, ◌≤◌, List, [], ◌∷◌, get_or, ap, sym, subst, ◌∙◌, arith}
use Rattle.std.specs.Prelude.{pos, ◌*ℤ◌, unsigned_abs, All}
use Prim.Native.Nat.{◌∣◌}
use Rattle.std.proofs.lemmas.Int.{unsigned_abs-mul}
use Rattle.std.proofs.lemmas.List.Elements.{All-nil, All-cons, All-head, All-tail, All-weaker}
use Rattle.std.proofs.lemmas.Nat.Gcd.{dvd_antisymm, dvd_trans, le_of_dvd}
use Rattle.std.proofs.Math.Nat.{div-mul_cancel, dvd-mul_left, dvd-mul_right, one-dvd, eq-zero_of_zero-dvd, one-le-mul}
use Rattle.def_fraction.specs.Divisors.{lcm}
use Rattle.def_fraction.specs.Fraction.{Fraction, IsInLowestTerms}
use Rattle.def_fraction.proofs.DivisorLemmas.{divides_other, IsLcm-lcm}
use Rattle.def_fraction.proofs.OrderLemmas.{times-times}
use Rattle.def_game_scale.specs.Scale.{unit_of, weight_of}
use Rattle.def_game_scale.specs.Laws.{IsMultiple, MakesWhole, IsLeastUnit}

-- a number that divides one that isn't 0 isn't 0
divisor-positive : (m n : ℕ) → m ∣ n → 1 ≤ n → 1 ≤ m
divisor-positive zero n h k = absurd (omega (arith, eq-zero_of_zero-dvd h))
divisor-positive (suc m) n h k = omega arith

pub lcm-positive : (a b : ℕ) → 1 ≤ a → 1 ≤ b → 1 ≤ lcm a b
lcm-positive a b ha hb = divisor-positive (lcm a b) (a * b) ((IsLcm-lcm a b ha hb).least (a * b) (dvd-mul_right a b) (dvd-mul_left b a)) (one-le-mul ha hb)

-- what divides the first of two numbers adds nothing to the least common multiple of both
pub lcm-absorbs : (a b c : ℕ) → 1 ≤ a → 1 ≤ b → 1 ≤ c → a ∣ b → lcm b (lcm a c) ≡ lcm b c
lcm-absorbs a b c some_a some_b some_c divides =
    let inner = IsLcm-lcm a c some_a some_c in
    let outer = IsLcm-lcm b (lcm a c) some_b (lcm-positive a c some_a some_c) in
    let both = IsLcm-lcm b c some_b some_c in
    dvd_antisymm
    (outer.least (lcm b c) both.first_divides (inner.least (lcm b c) (dvd_trans a divides both.first_divides) both.second_divides))
    (both.least (lcm b (lcm a c)) outer.first_divides (dvd_trans c inner.second_divides outer.second_divides))

-- the unit of fractions in lowest terms isn't 0
pub unit-positive : (fs : List Fraction) → All IsInLowestTerms fs → 1 ≤ unit_of fs
unit-positive [] h = omega arith
unit-positive (f ∷ rest) h = lcm-positive f.den (unit_of rest) (All-head IsInLowestTerms f rest h).positive
    (unit-positive rest (All-tail IsInLowestTerms f rest h))

-- each of the denominators divides the unit
pub den-divides : (fs : List Fraction) → All IsInLowestTerms fs → All (λ f. f.den ∣ unit_of fs) fs
den-divides [] h = All-nil (λ f. f.den ∣ 1)
den-divides (f ∷ rest) h =
    let least = IsLcm-lcm f.den (unit_of rest) (All-head IsInLowestTerms f rest h).positive (unit-positive rest (All-tail IsInLowestTerms f rest h)) in
    All-cons (λ x. x.den ∣ unit_of (f ∷ rest)) f rest least.first_divides
    (All-weaker (λ x. x.den ∣ unit_of rest) (λ x. x.den ∣ unit_of (f ∷ rest)) (λ x divides. dvd_trans x.den divides least.second_divides) rest
    (den-divides rest (All-tail IsInLowestTerms f rest h)))

-- the unit divides each number that all the denominators divide
pub unit-divides : (fs : List Fraction) (m : ℕ) → All IsInLowestTerms fs → All (λ f. f.den ∣ m) fs → unit_of fs ∣ m
unit-divides [] m h all = one-dvd m
unit-divides (f ∷ rest) m h all =
    let least = IsLcm-lcm f.den (unit_of rest) (All-head IsInLowestTerms f rest h).positive (unit-positive rest (All-tail IsInLowestTerms f rest h)) in
    least.least m (All-head (λ x. x.den ∣ m) f rest all) (unit-divides rest m (All-tail IsInLowestTerms f rest h) (All-tail (λ x. x.den ∣ m) f rest all))

-- what makes a fraction in lowest terms whole is a multiple of its denominator
den-divides_whole : (m : ℕ) (f : Fraction) → IsInLowestTerms f → MakesWhole m f → f.den ∣ m
den-divides_whole m f low whole =
    let sizes : unsigned_abs whole.0 * f.den ≡ unsigned_abs f.num * m = sym (unsigned_abs-mul whole.0 (pos f.den)) ∙ ap unsigned_abs whole.1
    ∙ unsigned_abs-mul f.num (pos m) in
    let P : ℕ → Type 0 = λ x. f.den ∣ x in
    divides_other (unsigned_abs f.num) f.den m low.coprime (subst P sizes (dvd-mul_left f.den (unsigned_abs whole.0)))

-- the weight is unit times the fraction
pub whole-weight : (unit : ℕ) (f : Fraction) → f.den ∣ unit → IsMultiple unit f (weight_of unit f)
whole-weight unit f divides = times-times f.num (unit / f.den) f.den ∙ ap (λ n. f.num *ℤ pos n) (div-mul_cancel f.den divides)

-- the unit makes each of the fractions whole, and no smaller number but 0 does
pub unit_is_least : (fs : List Fraction) → All IsInLowestTerms fs → IsLeastUnit fs
unit_is_least fs low =
    let divides : (m : ℕ) → All (MakesWhole m) fs → unit_of fs ∣ m =
    λ m whole. unit-divides fs m low (λ k d there. den-divides_whole m (get_or fs k d) (low k d there) (whole k d there)) in
    record {
      positive = unit-positive fs low;
      multiple = den-divides fs low;
      least_multiple = λ m all. unit-divides fs m low all;
      whole = All-weaker (λ f. f.den ∣ unit_of fs) (λ f. IsMultiple (unit_of fs) f (weight_of (unit_of fs) f)) (λ f d. whole-weight (unit_of fs) f d) fs
          (den-divides fs low);
      divides = divides;
      least = λ m some whole. le_of_dvd some (divides m whole);
    }
