-- What is written of a fraction is read as the same fraction.
use Rattle.std.proofs.Common.{◌≡◌, ℕ, suc, ◌+◌, ◌-◌, ◌*◌, ◌/◌, ◌%◌, ◌^◌, get_or, ◌<◌, ◌≤◌, Bool, true, false, cond, eqb, List, [], ◌∷◌, ◌++◌, length, Some}
use Rattle.std.proofs.Common.{None, Ok, ℤ, pos, negsuc, unsigned_abs, refl, sym, ap, ◌∙◌, subst, arith, rules, append_assoc}
use mathlib.Core.List.{append-nil}
use Rattle.std.specs.Prelude.{IsTrue}
use Rattle.std.specs.Char.{is_ascii_digit}
use Rattle.std.specs.Str.{all_ascii_digits}
use Rattle.std.specs.Fmt.{decimal as decimal_text}
use Rattle.std.proofs.lemmas.Str.Parse.{IsNumeralModel, numerals_by_weight, tells_all_ascii_digits}
use Rattle.std.proofs.lemmas.Fmt.{digits_decimal, digits_value-decimal, decimal_nonempty, decimal_digit, decimal_by_steps_wide}
use Rattle.std.proofs.lemmas.Bool.{and_parts, and_from, leb-true, le-leb, lt-ltb, eqb-true, ne_eqb}
use Rattle.def_fraction.specs.Digits.{is_numeral, number_of}
use Rattle.def_fraction.specs.Fraction.{Fraction, IsInLowestTerms, fraction_of, fits, signed}
use Rattle.def_fraction.specs.Literal.{slash, no_sign, minus_sign, Sign, Body, quotient, decimal, Literal, literal_text, body_text, sign_text, IsBody, is_minus}
use Rattle.def_fraction.specs.Literal.{numerator, denominator}
use Rattle.def_fraction.specs.Reading.{literal_of, value_of, read_as_literal}
use Rattle.def_fraction.specs.Text.{int_text, fraction_text}
use Rattle.def_fraction.proofs.FractionLemmas.{fraction_of-lowest}
use Rattle.def_fraction.specs.Laws.{IsCanonical, IsCanonicalText}
use Rattle.def_fraction.proofs.LiteralLemmas.{literal_of-text, digits-append}
use Rattle.def_fraction.proofs.NumberLemmas.{number_of-append}
use Rattle.std.proofs.lemmas.List.{length-append, get_or_append_left}

pub numerals : IsNumeralModel (λ ds. all_ascii_digits ds ≡ true) number_of
numerals = numerals_by_weight _ tells_all_ascii_digits number_of (search rules)

-- the decimal text of a number below 2 ^ 64 is made of digits, of one at least
pub decimal-numeral : (n : ℕ) → n < 2 ^ 64 → is_numeral (decimal_text n) ≡ true
decimal-numeral n h = and_from _ _ (digits_decimal numerals n h) (lt-ltb 0 (length (decimal_text n)) (decimal_nonempty n h))

-- the decimal text of a number below 2 ^ 64 writes this number
pub number_of-decimal : (n : ℕ) → n < 2 ^ 64 → number_of (decimal_text n) ≡ n
number_of-decimal n h = digits_value-decimal numerals n h

-- the literal that the text of a fraction is
abbrev sign_for : ℤ → Sign
sign_for (pos n) = no_sign
sign_for (negsuc n) = minus_sign

abbrev body_for : ℕ → ℕ → Body
body_for n d = cond (eqb d 1) (decimal (decimal_text n) None None) (quotient (decimal_text n) (decimal_text d))

abbrev literal_for : Fraction → Literal
literal_for f = record { sign = sign_for f.num; body = body_for (unsigned_abs f.num) f.den }

int_text-split : (z : ℤ) → int_text z ≡ sign_text (sign_for z) ++ decimal_text (unsigned_abs z)
int_text-split (pos n) = refl
int_text-split (negsuc n) = refl

text_if : (z : ℤ) (d : ℕ) (one : Bool)
    → sign_text (sign_for z) ++ body_text (cond one (decimal (decimal_text (unsigned_abs z)) None None)
    (quotient (decimal_text (unsigned_abs z)) (decimal_text d)))
    ≡ cond one (int_text z) (int_text z ++ slash ∷ decimal_text d)
text_if z d true = ap (λ xs. sign_text (sign_for z) ++ xs) (append-nil (decimal_text (unsigned_abs z))) ∙ sym (int_text-split z)
text_if z d false = sym (append_assoc (sign_text (sign_for z)) (decimal_text (unsigned_abs z)) (slash ∷ decimal_text d))
    ∙ ap (λ xs. xs ++ slash ∷ decimal_text d) (sym (int_text-split z))

literal_text-fraction : (f : Fraction) → literal_text (literal_for f) ≡ fraction_text f
literal_text-fraction f = text_if f.num f.den (eqb f.den 1)

body_formed : (n d : ℕ) (one : Bool) → n < 2 ^ 64 → d < 2 ^ 64
    → IsBody (cond one (decimal (decimal_text n) None None) (quotient (decimal_text n) (decimal_text d)))
body_formed n d true p q = (subst (λ (xs : List ℕ). is_numeral xs ≡ true) (sym (append-nil (decimal_text n))) (decimal-numeral n p), tt)
body_formed n d false p q = (decimal-numeral n p, decimal-numeral d q)

numerator_is : (n d : ℕ) (one : Bool) → n < 2 ^ 64
    → numerator (cond one (decimal (decimal_text n) None None) (quotient (decimal_text n) (decimal_text d))) ≡ n
numerator_is n d true p = ap (λ xs. number_of xs * 1) (append-nil (decimal_text n)) ∙ ap (λ x. x * 1) (number_of-decimal n p) ∙ omega arith
numerator_is n d false p = number_of-decimal n p

denominator_is : (n d : ℕ) (one : Bool) → eqb d 1 ≡ one → d < 2 ^ 64
    → denominator (cond one (decimal (decimal_text n) None None) (quotient (decimal_text n) (decimal_text d))) ≡ d
denominator_is n d true e q = sym (eqb-true d 1 e)
denominator_is n d false e q = number_of-decimal d q

signed_for : (z : ℤ) → signed (is_minus (sign_for z)) (unsigned_abs z) ≡ z
signed_for (pos n) = refl
signed_for (negsuc n) = refl

value_of-fraction : (f : Fraction) → IsInLowestTerms f → fits f ≡ true → value_of (literal_for f) ≡ Ok f
unfolding value_of
value_of-fraction f h w =
    let small = and_parts _ _ w in
    let above : unsigned_abs f.num ≤ 2 ^ 62 = leb-true (unsigned_abs f.num) (2 ^ 62) small.0 in
    let below : f.den ≤ 2 ^ 62 = leb-true f.den (2 ^ 62) small.1 in
    let n : numerator (literal_for f).body ≡ unsigned_abs f.num = numerator_is (unsigned_abs f.num) f.den (eqb f.den 1) (omega arith) in
    let d : denominator (literal_for f).body ≡ f.den = denominator_is (unsigned_abs f.num) f.den (eqb f.den 1) refl (omega arith) in
    let positive = h.positive in
    let exact : fraction_of (signed (is_minus (sign_for f.num)) (unsigned_abs f.num)) f.den ≡ f = ap (λ z. fraction_of z f.den) (signed_for f.num)
    ∙ fraction_of-lowest f h in
    rw (n, d, exact, ne_eqb f.den 0 (λ e. omega arith), le-leb (unsigned_abs f.num) (2 ^ 127 - 1) (omega arith), le-leb f.den (2 ^ 127 - 1) (omega arith), w)
    refl

-- the text of a fraction within the limit is read as this fraction
pub read_as_literal-fraction_text : (f : Fraction) → IsInLowestTerms f → IsTrue (fits f)
    → read_as_literal (fraction_text f) ≡ Ok f
unfolding read_as_literal
read_as_literal-fraction_text f h w =
    let small = and_parts _ _ w in
    let above : unsigned_abs f.num ≤ 2 ^ 62 = leb-true (unsigned_abs f.num) (2 ^ 62) small.0 in
    let below : f.den ≤ 2 ^ 62 = leb-true f.den (2 ^ 62) small.1 in
    let shown : literal_of (fraction_text f) ≡ Some (literal_for f) = ap literal_of (sym (literal_text-fraction f))
    ∙ literal_of-text (literal_for f) (body_formed (unsigned_abs f.num) f.den (eqb f.den 1) (omega arith) (omega arith)) in
    rw shown (value_of-fraction f h w)

-- ---- the canonical text

-- what building the text digit by digit keeps
record Builds (n : ℕ) (ds : List ℕ) : Type 0 where
  digits : all_ascii_digits ds ≡ true
  value : number_of ds ≡ n
  some : 0 < length ds
  first : 0 < n → 48 < get_or ds 0 0

digit_test : (d : ℕ) → d < 10 → is_ascii_digit (48 + d) ≡ true
digit_test d h = and_from _ _ (le-leb 48 (48 + d) (omega arith)) (le-leb (48 + d) 57 (omega arith))

builds_one : (n : ℕ) → n < 10 → Builds n ((48 + n) ∷ [])
builds_one n h = record {
  digits = and_from _ _ (digit_test n h) refl;
  value = omega arith;
  some = omega arith;
  first = λ p. omega arith;
}

builds_more : (n : ℕ) (ds : List ℕ) → 10 ≤ n → Builds (n / 10) ds → Builds n (ds ++ ((48 + n % 10) ∷ []))
builds_more n ds h b =
    let last : n % 10 < 10 = omega arith in
    let front = b.first (omega arith) in
    let joined = number_of-append ds ((48 + n % 10) ∷ []) in
    let value = b.value in
    record {
      digits = digits-append ds ((48 + n % 10) ∷ []) b.digits (and_from _ _ (digit_test (n % 10) last) refl);
      value = joined ∙ omega arith;
      some = omega (arith, length-append ds ((48 + n % 10) ∷ []), b.some);
      first = λ p. omega (arith, get_or_append_left ds ((48 + n % 10) ∷ []) 0 0 b.some);
    }

decimal-builds : (n : ℕ) → n < 10 ^ 64 → Builds n (decimal_text n)
decimal-builds = decimal_by_steps_wide Builds builds_one builds_more

decimal-canonical : (n : ℕ) → n < 10 ^ 64 → IsCanonical n (decimal_text n)
decimal-canonical n h =
    let b = decimal-builds n h in
    record {
      numeral = and_from _ _ b.digits (lt-ltb 0 (length (decimal_text n)) b.some);
      value = b.value;
      no_leading_zero = b.first;
      zero = λ e. ap decimal_text e ∙ decimal_digit 0 (omega arith);
    }

-- the text of a whole number has no leading zero, and a minus exactly where the number is negative
pub int_text-canonical : (n : ℤ) → unsigned_abs n ≤ 2 ^ 127 → IsCanonicalText n (int_text n)
int_text-canonical (pos n) h = decimal-canonical n (omega arith)
int_text-canonical (negsuc n) h = (decimal_text (suc n), refl, decimal-canonical (suc n) (omega arith))
