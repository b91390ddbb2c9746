-- Numbers as fields.
use Rattle.std.proofs.Common.{◌≡◌, ℕ, suc, ◌+◌, ◌/◌, ◌^◌, ◌<◌, ◌≤◌, ◌≤ℤ◌, true, false, leb, List, ◌∷◌, length, get_or, drop, drop-cons, Option, Some, None, Ok}
use Rattle.std.proofs.Common.{ℤ, pos, negsuc, unsigned_abs, IsTrue, refl, sym, ap, ◌∙◌, subst, arith, ⊎_elim}
use Rattle.std.specs.Char.{is_ascii_digit}
use Rattle.std.specs.Str.{all_ascii_digits}
use Rattle.std.proofs.Math.Nat.{div-lt_self}
use Rattle.std.proofs.lemmas.Bool.{and_parts, and_from, eq-eqb, ne_eqb, leb-true, le-leb, cases_lt}
use Rattle.std.proofs.lemmas.Int.{ints}
use Rattle.def_fraction.specs.Divisors.{gcd}
use Rattle.def_fraction.specs.Fraction.{Fraction, fraction_of, fits, most}
use Rattle.def_fraction.specs.Reading.{read_as_literal}
use Rattle.def_fraction.proofs.DivisorLemmas.{gcd-positive}
use Rattle.def_fraction.proofs.FractionLemmas.{fraction_of-lowest}
use Rattle.def_fraction.proofs.TextLemmas.{read_as_literal-fraction_text}
use Rattle.def_cert_verdict.specs.Ranges.{most_printed}
use Rattle.def_cert_text.specs.Numbers.{fraction_in, over_in}
use Rattle.def_cert_text.proofs.FieldLaws.{fraction_again, fraction_only}

-- ---- digits one after another
pub record IsNextDigit (bytes : List ℕ) (i : ℕ) : Type 0 where
  pub parts : drop i bytes ≡ get_or bytes i 0 ∷ drop (i + 1) bytes
  pub digit : is_ascii_digit (get_or bytes i 0) ≡ true
  pub more : IsTrue (all_ascii_digits (drop (i + 1) bytes))

-- where digits alone stand from a place on, the byte there is a digit, and digits alone stand behind it
pub next_digit : (bytes : List ℕ) (i : ℕ) → i < length bytes → IsTrue (all_ascii_digits (drop i bytes))
    → IsNextDigit bytes i
next_digit bytes i there digits =
    let next : suc i ≡ i + 1 = omega arith in
    let parts : drop i bytes ≡ get_or bytes i 0 ∷ drop (i + 1) bytes = drop-cons bytes i 0 there ∙ ap (λ (n : ℕ). get_or bytes i 0 ∷ drop n bytes) next in
    let tests = and_parts (is_ascii_digit (get_or bytes i 0)) (all_ascii_digits (drop (i + 1) bytes))
    (subst (λ (ds : List ℕ). IsTrue (all_ascii_digits ds)) parts digits) in
    record { parts = parts; digit = tests.0; more = tests.1 }

-- ---- a fraction in lowest terms
denominator_is : (num : ℤ) (den : ℕ) → (fraction_of num den).den ≡ den / gcd (unsigned_abs num) den
unfolding fraction_of
denominator_is num den = refl

-- a denominator stays exactly where there is no common divisor but 1
kept_by_one : (num : ℤ) (den : ℕ) → 1 ≤ den → (fraction_of num den).den ≡ den → gcd (unsigned_abs num) den ≡ 1
kept_by_one num den some kept =
    let g = gcd (unsigned_abs num) den in
    let positive : 1 ≤ g = gcd-positive (unsigned_abs num) den some in
    let shorter : 1 < g → den / g < den = λ more. div-lt_self some more in
    ⊎_elim (λ (more : 1 < g). absurd (omega (arith, shorter more, denominator_is num den, kept))) (λ (one : g ≤ 1). omega (arith, positive, one)) (cases_lt 1 g)

-- where lowest terms keep the positive denominator, num over den reads as this fraction
pub kept_in_lowest_terms : (num den : ℤ) (f : Fraction) → f ≡ fraction_of num (unsigned_abs den) → pos 1 ≤ℤ den
    → pos f.den ≡ den → Some f ≡ over_in num (Some (unsigned_abs den))
kept_in_lowest_terms num (negsuc d) f is some kept = cc
kept_in_lowest_terms num (pos d) f is some kept =
    let positive : 1 ≤ d = omega (arith, ints, some) in
    let den : f.den ≡ d = cc in
    let one = kept_by_one num d positive (ap (λ (g : Fraction). g.den) (sym is) ∙ den) in
    let exact : f ≡ record { num = num; den = d } = is ∙ fraction_of-lowest (record { num = num; den = d }) (record { positive = positive; coprime = one }) in
    rw (eq-eqb (gcd (unsigned_abs num) d) 1 one) (ap Some exact)

-- where lowest terms change the positive denominator, num over den reads as no fraction
pub lost_in_lowest_terms : (num den : ℤ) (f : Fraction) → f ≡ fraction_of num (unsigned_abs den) → pos 1 ≤ℤ den
    → (pos f.den ≡ den → ⊥) → None ≡ over_in num (Some (unsigned_abs den))
lost_in_lowest_terms num (negsuc d) f is some lost = absurd (omega (arith, ints, some))
lost_in_lowest_terms num (pos d) f is some lost =
    let positive : 1 ≤ d = omega (arith, ints, some) in
    let kept : gcd (unsigned_abs num) d ≡ 1 → ⊥ =
    λ one. lost (ap (λ (g : Fraction). pos g.den) (is ∙ fraction_of-lowest (record { num = num; den = d }) (record { positive = positive; coprime = one }))) in
    rw (ne_eqb (gcd (unsigned_abs num) d) 1 kept) refl

-- ---- a fraction with small parts
-- what is read within a limit is read as the same within a greater one
read_wider : (narrow wide : ℕ) (bytes : List ℕ) (f : Fraction) → 1 ≤ narrow → narrow ≤ wide → wide ≤ 2 ^ 126
    → fraction_in narrow bytes ≡ Some f
    → (fraction_in wide bytes ≡ Some f) × (unsigned_abs f.num ≤ narrow) × (f.den ≤ narrow)
read_wider narrow wide bytes f one wider small e =
    let p = fraction_only narrow f bytes (omega arith) one e in
    let is = p.0 in (
      ap (fraction_in wide) p.1 ∙ fraction_again wide f small (record {
        positive = is.positive;
        coprime = is.coprime;
        num = omega (arith, is.num);
        den = omega (arith, is.den);
      }),
      is.num,
      is.den,
    )

-- where no such fraction is read within the great limit, none is read within the small one
none_read : (bytes : List ℕ) → ((f : Fraction) → fraction_in most_printed bytes ≡ Some f → fits f ≡ true → ⊥)
    → fraction_in most bytes ≡ None
none_read bytes none = by (fraction_in most bytes) refl
  where
    by : (o : Option Fraction) → fraction_in most bytes ≡ o → o ≡ None
    by None e = refl
    by (Some f) e =
        let p = read_wider most most_printed bytes f (omega arith) (omega arith) (omega arith) e in
        absurd (none f p.0 (and_from (leb (unsigned_abs f.num) most) (leb f.den most) (le-leb (unsigned_abs f.num) most p.1) (le-leb f.den most p.2)))

-- where no fraction is read within the great limit, none is read within the small one
pub none_at_all : (bytes : List ℕ) → fraction_in most_printed bytes ≡ None → fraction_in most bytes ≡ None
none_at_all bytes none = none_read bytes (λ f e fit. (let bad = sym none ∙ e in cc))

-- where a fraction is read that has a part past the small limit, none is read within it
pub none_fits : (bytes : List ℕ) (f : Fraction) → fraction_in most_printed bytes ≡ Some f → fits f ≡ false
    → fraction_in most bytes ≡ None
none_fits bytes f read unfit = none_read bytes (λ g e fit.
    (let same : g ≡ f = (let both = sym e ∙ read in cc) in
    let bad = sym unfit ∙ ap fits (sym same) ∙ fit in cc))

-- where a fraction is read that has small parts, it is read within the small limit, and as a literal
pub small_read : (bytes : List ℕ) (f : Fraction) → fraction_in most_printed bytes ≡ Some f → fits f ≡ true
    → (fraction_in most bytes ≡ Some f) × (read_as_literal bytes ≡ Ok f)
small_read bytes f read fit =
    let p = fraction_only most_printed f bytes (omega arith) (omega arith) read in
    let is = p.0 in
    let parts = and_parts (leb (unsigned_abs f.num) most) (leb f.den most) fit in (
      ap (fraction_in most) p.1
          ∙ fraction_again most f (omega arith)
          (record { positive = is.positive; coprime = is.coprime; num = leb-true (unsigned_abs f.num) most parts.0; den = leb-true f.den most parts.1 }),
      ap read_as_literal p.1 ∙ read_as_literal-fraction_text f (record { positive = is.positive; coprime = is.coprime }) fit,
    )
