-- A sum with nothing, and one that is 0.
use Rattle.std.proofs.Common.{◌≡◌, ℕ, suc, ◌*◌, ◌/◌, ◌%◌, ◌≤◌, true, refl, ap, sym, subst, ◌∙◌, arith, eq-eqb}
use Rattle.std.specs.Prelude.{ℤ, pos, negsuc, neg_ℤ, ◌+ℤ◌, ◌*ℤ◌, unsigned_abs}
use Rattle.std.proofs.lemmas.Bool.{eqb-true}
use Prim.Native.Nat.{◌∣◌}
use Rattle.std.proofs.lemmas.Int.{ints}
use Rattle.std.proofs.lemmas.Nat.Gcd.{dvd-zero, dvd_antisymm, dvd_of_mod-eq-zero, dvd_refl, le_of_dvd}
use Rattle.std.proofs.Math.IntN.{pos-*ℤ-pos}
use Rattle.std.proofs.Math.Nat.{zero-div, one-mul}
use Rattle.def_fraction.specs.Divisors.{gcd, lcm}
use Rattle.def_fraction.specs.Fraction.{Fraction, IsInLowestTerms, fraction_of, product_of, sum_of, without_factor, zero_fraction, is_zero}
use Rattle.def_fraction.proofs.DivisorLemmas.{IsGcd-gcd, IsLcm-lcm}
use Rattle.def_fraction.proofs.FractionLemmas.{fraction_of-lowest, neg-times, unsigned_abs-without_factor}
use Rattle.def_sums.proofs.RingLaws.{one-*ℤ}
use Rattle.def_game_scale.proofs.Nodes.{no_size}
use Rattle.def_game_scale.proofs.Units.{lcm-positive}

-- with nothing more a fraction stays
pub sum_nothing : (f : Fraction) → IsInLowestTerms f → sum_of f zero_fraction ≡ f
sum_nothing f low =
    let none : pos 0 *ℤ pos f.den ≡ pos 0 = pos-*ℤ-pos 0 f.den ∙ ap pos (zero_times f.den) in
    let num : (f.num *ℤ pos 1) +ℤ (pos 0 *ℤ pos f.den) ≡ f.num = ap (λ z. (f.num *ℤ pos 1) +ℤ z) none ∙ times_one f.num in
    let den : f.den * 1 ≡ f.den = omega arith in
    (λ i. fraction_of (num i) (den i)) ∙ fraction_of-lowest f low
  where
    zero_times : (n : ℕ) → 0 * n ≡ 0
    zero_times n = omega arith

    times_one : (z : ℤ) → (z *ℤ pos 1) +ℤ pos 0 ≡ z
    times_one z = omega (arith, ints)

-- 0 in lowest terms has the denominator 1
zero_den : (f : Fraction) → IsInLowestTerms f → is_zero f ≡ true → f.den ≤ 1
zero_den f low zero =
    let none : unsigned_abs f.num ≡ 0 = eqb-true (unsigned_abs f.num) 0 zero in
    let common : gcd 0 f.den ≡ 1 = ap (λ n. gcd n f.den) (sym none) ∙ low.coprime in
    let divides : f.den ∣ 1 = subst (λ g. f.den ∣ g) common ((IsGcd-gcd 0 f.den).2 f.den (dvd-zero f.den) (dvd_refl f.den)) in
    le_of_dvd (omega arith) divides

-- more than nothing is what comes
pub nothing_more : (f g : Fraction) → IsInLowestTerms f → IsInLowestTerms g → is_zero f ≡ true → sum_of f g ≡ g
nothing_more f g low_f low_g zero =
    let none : f.num ≡ pos 0 = no_size f.num (eqb-true (unsigned_abs f.num) 0 zero) in
    let at_most : f.den ≤ 1 = zero_den f low_f zero in
    let positive = low_f.positive in
    let one : f.den ≡ 1 = omega arith in
    let num : (f.num *ℤ pos g.den) +ℤ (g.num *ℤ pos f.den) ≡ g.num =
    ap (λ z. (z *ℤ pos g.den) +ℤ (g.num *ℤ pos f.den)) none
    ∙ ap (λ n. (pos 0 *ℤ pos g.den) +ℤ (g.num *ℤ pos n)) one
    ∙ ap (λ z. z +ℤ (g.num *ℤ pos 1)) (pos-*ℤ-pos 0 g.den ∙ ap pos (zero_times g.den))
    ∙ times_one g.num in
    let den : f.den * g.den ≡ g.den = ap (λ n. n * g.den) one ∙ one-mul g.den in
    (λ i. fraction_of (num i) (den i)) ∙ fraction_of-lowest g low_g
  where
    zero_times : (n : ℕ) → 0 * n ≡ 0
    zero_times n = omega arith

    times_one : (z : ℤ) → pos 0 +ℤ (z *ℤ pos 1) ≡ z
    times_one z = omega (arith, ints)

-- what is paid to one and taken from the other is nothing
opposites_cancel : (a b : ℤ) (d : ℕ) → a ≡ neg_ℤ b → (a *ℤ pos d) +ℤ (b *ℤ pos d) ≡ pos 0
opposites_cancel a (pos m) d opposite =
    (λ i. ((opposite ∙ refl) i *ℤ pos d) +ℤ (pos m *ℤ pos d))
    ∙ (λ i. neg-times m d i +ℤ pos-*ℤ-pos m d i)
    ∙ together (m * d)
  where
    together : (k : ℕ) → neg_ℤ (pos k) +ℤ pos k ≡ pos 0
    together k = omega (arith, ints)
opposites_cancel a (negsuc m) d opposite =
    (λ i. (opposite i *ℤ pos d) +ℤ (negsuc m *ℤ pos d))
    ∙ (λ i. pos-*ℤ-pos (suc m) d i +ℤ neg-times (suc m) d i)
    ∙ together (suc m * d)
  where
    together : (k : ℕ) → pos k +ℤ neg_ℤ (pos k) ≡ pos 0
    together k = omega (arith, ints)

zero_numerator : (n : ℤ) (d : ℕ) → n ≡ pos 0 → is_zero (fraction_of n d) ≡ true
unfolding fraction_of
zero_numerator n d none =
    let size : unsigned_abs (without_factor n (gcd (unsigned_abs n) d)) ≡ 0 =
    unsigned_abs-without_factor n (gcd (unsigned_abs n) d)
    ∙ ap (λ z. unsigned_abs z / gcd (unsigned_abs n) d) none
    ∙ zero-div (gcd (unsigned_abs n) d) in
    eq-eqb _ 0 size

-- opposite fractions add up to 0
pub opposite_sum : (a b : Fraction) → a.num ≡ neg_ℤ b.num → a.den ≡ b.den → is_zero (sum_of a b) ≡ true
opposite_sum a b num den =
    zero_numerator _ (a.den * b.den) (ap (λ n. (a.num *ℤ pos b.den) +ℤ (b.num *ℤ pos n)) den ∙ opposites_cancel a.num b.num b.den num)

-- 1 times a fraction is the fraction
pub one_times : (f g : Fraction) → f.num ≡ pos 1 → f.den ≡ 1 → IsInLowestTerms g → product_of f g ≡ g
one_times f g one whole low =
    let num : f.num *ℤ g.num ≡ g.num = ap (λ z. z *ℤ g.num) one ∙ one-*ℤ g.num in
    let den : f.den * g.den ≡ g.den = ap (λ n. n * g.den) whole ∙ one-mul g.den in
    (λ i. fraction_of (num i) (den i)) ∙ fraction_of-lowest g low

-- a unit that the denominator divides stays
pub unit_stays : (den unit : ℕ) → 1 ≤ den → 1 ≤ unit → unit % den ≡ 0 → lcm den unit ≡ unit
unit_stays den unit some_den some_unit divided =
    let multiple = IsLcm-lcm den unit some_den some_unit in
    dvd_antisymm (multiple.least unit (dvd_of_mod-eq-zero den divided) (dvd_refl unit)) multiple.second_divides

-- 0 in lowest terms is nothing
pub is_nothing : (f : Fraction) → IsInLowestTerms f → is_zero f ≡ true → f ≡ zero_fraction
is_nothing f low zero =
    let at_most : f.den ≤ 1 = zero_den f low zero in
    let positive = low.positive in
    let one : f.den ≡ 1 = omega arith in
    ap (λ (n : ℤ). record { num = n; den = f.den }) (no_size f.num (eqb-true (unsigned_abs f.num) 0 zero)) ∙ ap (λ (d : ℕ). record { num = pos 0; den = d }) one

-- a least common multiple is as large as its second number
pub lcm_above : (a b : ℕ) → 1 ≤ a → 1 ≤ b → b ≤ lcm a b
lcm_above a b some_a some_b = le_of_dvd (lcm-positive a b some_a some_b) (IsLcm-lcm a b some_a some_b).second_divides
