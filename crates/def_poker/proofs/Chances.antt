-- Equal chances, as many as one of them is a part of, add up to 1.
use Rattle.std.proofs.Common.{◌≡◌, ℕ, zero, suc, ◌+◌, ◌*◌, ◌/◌, ◌≤◌, List, [], ◌∷◌, length, sym, ap, ◌∙◌, subst, arith, div-le_self}
use Rattle.std.specs.Prelude.{pos, ◌*ℤ◌, ◌+ℤ◌, take}
use Prim.Native.Nat.{◌∣◌}
use Rattle.std.proofs.Math.Nat.{div-mul_cancel, dvd-mul_right, one-le-mul}
use Rattle.def_fraction.specs.Divisors.{gcd}
use Rattle.def_fraction.specs.Fraction.{Fraction, fits, fraction_of, one_over, sum_of, zero_fraction}
use Rattle.def_fraction.specs.Laws.{HasValue}
use Rattle.def_fraction.proofs.DivisorLemmas.{IsGcd-gcd}
use Rattle.def_fraction.proofs.FractionLemmas.{fraction_of-reduced, fraction_of-value}
use Rattle.def_fraction.proofs.OrderLemmas.{times-times, times_turned}
use Rattle.def_game_scale.specs.First.{AddUpToOne, RunningSumsFit, sum_from}
use Rattle.def_game_scale.specs.Tables.{certain}
use Rattle.def_game_scale.proofs.Chance.{nothing-lowest}
use Rattle.def_game_scale.proofs.Weights.{whole-lowest}
use Rattle.def_poker.proofs.Parts.{IsPart, part_fits}

-- each of them is one of m equal parts
abbrev pub AreEach : ℕ → List Fraction → Type 0
AreEach m [] = Unit {0}
AreEach m (p ∷ ps) = (p ≡ one_over m) × AreEach m ps

one_more : (m k : ℕ) → 1 ≤ m → sum_of (fraction_of (pos k) m) (one_over m) ≡ fraction_of (pos (k + 1)) m
one_more m k some =
    let a = fraction_of (pos k) m in
    let f = fraction_of (pos (k + 1)) m in
    let now = fraction_of-reduced (pos k) m some in
    let next = fraction_of-reduced (pos (k + 1)) m some in
    let sum : (a.num *ℤ pos m) +ℤ (pos 1 *ℤ pos a.den) ≡ pos (k + 1) *ℤ pos a.den =
    ap (λ x. x +ℤ (pos 1 *ℤ pos a.den)) now.exact ∙ ap pos (adds k a.den) in
    let turn : a.den * m ≡ m * a.den = omega arith in
    let value : HasValue f ((a.num *ℤ pos m) +ℤ (pos 1 *ℤ pos a.den)) (a.den * m) =
    ap (λ x. f.num *ℤ pos x) turn ∙ sym (times-times f.num m a.den) ∙ ap (λ x. x *ℤ pos a.den) next.exact
    ∙ times_turned (pos (k + 1)) f.den a.den ∙ ap (λ x. x *ℤ pos f.den) (sym sum) in
    fraction_of-value f ((a.num *ℤ pos m) +ℤ (pos 1 *ℤ pos a.den)) (a.den * m) next.lowest (one-le-mul now.lowest.positive some) value
  where
    adds : (x d : ℕ) → x * d + 1 * d ≡ (x + 1) * d
    adds x d = omega arith

sum_up : (m k : ℕ) (ps : List Fraction) → 1 ≤ m → AreEach m ps
    → sum_from (fraction_of (pos k) m) ps ≡ fraction_of (pos (k + length ps)) m
sum_up m k [] some are = let same : k ≡ k + 0 = omega arith in ap (λ x. fraction_of (pos x) m) same
sum_up m k (p ∷ ps) some are =
    let same : k + 1 + length ps ≡ k + suc (length ps) = omega arith in
    ap (λ q. sum_from (sum_of (fraction_of (pos k) m) q) ps) are.0 ∙ ap (λ q. sum_from q ps) (one_more m k some)
    ∙ sum_up m (k + 1) ps some are.1 ∙ ap (λ x. fraction_of (pos x) m) same

nothing : (m : ℕ) → 1 ≤ m → zero_fraction ≡ fraction_of (pos 0) m
nothing m some = sym (fraction_of-value zero_fraction (pos 0) m nothing-lowest some (ap pos (none m)))
  where
    none : (x : ℕ) → 0 * x ≡ 0 * 1
    none x = omega arith

-- the first ones of them add up to so many parts
sum_is : (m : ℕ) (ps : List Fraction) → 1 ≤ m → AreEach m ps → sum_from zero_fraction ps ≡ fraction_of (pos (length ps)) m
sum_is m ps some are =
    let same : 0 + length ps ≡ length ps = omega arith in
    ap (λ q. sum_from q ps) (nothing m some) ∙ sum_up m 0 ps some are ∙ ap (λ x. fraction_of (pos x) m) same

take_each : (m k : ℕ) (ps : List Fraction) → AreEach m ps → AreEach m (take k ps) × (length (take k ps) ≤ length ps)
take_each m zero ps are = (tt, omega arith)
take_each m (suc k) [] are = (tt, omega arith)
take_each m (suc k) (p ∷ ps) are = let rest = take_each m k ps are.1 in ((are.0, rest.0), omega (arith, rest.1))

whole_part : (m k : ℕ) → 1 ≤ m → IsPart m k (fraction_of (pos k) m)
unfolding fraction_of
whole_part m k some =
    let common = gcd k m in
    let whole = div-mul_cancel common (IsGcd-gcd k m).1 in
    let Divides : ℕ → Type 0 = λ x. m / common ∣ x in
    record {
      few = div-le_self k common;
      divides = subst Divides whole (dvd-mul_right (m / common) common);
      some = (fraction_of-reduced (pos k) m some).lowest.positive;
    }

pub chances_pass : (m : ℕ) (ps : List Fraction) → 1 ≤ m → m ≤ 64 → AreEach m ps → length ps ≡ m
    → RunningSumsFit ps × AddUpToOne ps
chances_pass m ps some few are count = (
  λ k within.
      let first = take_each m k ps are in
      let sum = sum_is m (take k ps) some first.0 in
      ap fits sum ∙ part_fits m (length (take k ps)) (fraction_of (pos (length (take k ps))) m) some
      (omega arith) (omega (arith, first.1, count)) (whole_part m (length (take k ps)) some),
  sum_is m ps some are ∙ ap (λ x. fraction_of (pos x) m) count
      ∙ fraction_of-value certain (pos m) m (whole-lowest (pos 1)) some (ap pos (turned m)),
)
  where
    turned : (x : ℕ) → 1 * x ≡ x * 1
    turned x = omega arith
