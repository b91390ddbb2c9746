-- What reading a literal gives, by the parts that were read.
use Rattle.std.proofs.Common.{◌≡◌, ℕ, zero, suc, ◌-◌, ◌^◌, ◌<◌, ◌≤◌, min, Bool, true, false, cond, ◌&&◌, eqb, ltb, leb, List, Option, Some, None, Result, Ok}
use Rattle.std.proofs.Common.{Err, refl, sym, ap, ◌∙◌, subst, ◌⊎◌, ⊎_elim, arith}
use Rattle.std.specs.Prelude.{SomeIff, IsTrue, IfOk}
use Rattle.std.specs.Option.{option_map, ok_or}
use Rattle.std.proofs.lemmas.Bool.{cases_lt, lt-ltb, le-ltb, le-leb, lt-leb, ne_eqb, false_from_ne_true}
use Rattle.def_fraction.specs.declared.fault.NumberFault.{NumberFault}
use Rattle.def_fraction.specs.declared.fault.NumberFault.TheVariants.{Form, ZeroDenominator, Range}
use Rattle.def_fraction.specs.Fraction.{Fraction, fraction_of, fits, signed}
use Rattle.def_fraction.specs.Literal.{Body, is_minus, numerator, denominator, IsLiteralOf}
use Rattle.def_fraction.specs.Reading.{sign_of, after_sign, body_of, literal_of, value_of, value_if, read_as_literal}
use Rattle.def_fraction.specs.Laws.{JudgesLiteral}
use Rattle.def_fraction.proofs.JudgeLemmas.{read_as_literal-judged}
use Rattle.xg_frac.specs.declared.literal.Quotient.{Quotient}
use Rattle.xg_frac.specs.Scan.{past_all, quotient_of}

abbrev pub fraction_answer : Bool → ℕ → ℕ → Result Fraction NumberFault
fraction_answer negative n d =
    cond (eqb d 0) (Err ZeroDenominator) (cond (ltb n past_all && ltb d past_all && fits (fraction_of (signed negative n) d))
    (Ok (fraction_of (signed negative n) d)) (Err Range))

abbrev pub answer_if : Bool → Option Quotient → Result Fraction NumberFault
answer_if negative None = Err Form
answer_if negative (Some q) = fraction_answer negative q.num q.den

zero_capped : (d : ℕ) → eqb (min d past_all) 0 ≡ eqb d 0
zero_capped zero = refl
zero_capped (suc d) = ne_eqb (min (suc d) past_all) 0 (λ e. omega arith) ∙ sym (ne_eqb (suc d) 0 (λ e. omega arith))

abbrev over_zero : Result Fraction NumberFault
over_zero = Err ZeroDenominator

-- an answer that is out of range either way
out : (d : ℕ) (a b : Bool) (f g : Fraction) → a ≡ false → b ≡ false
    → cond (eqb d 0) over_zero (cond a (Ok f) (Err Range))
    ≡ cond (eqb (min d past_all) 0) (Err ZeroDenominator) (cond b (Ok g) (Err Range))
out d a b f g p q = rw (p, q, zero_capped d) refl

first_false : (a b c : Bool) → a ≡ false → (a && b && c) ≡ false
first_false false b c e = refl
first_false true b c e = cc

second_false : (a b c : Bool) → b ≡ false → (a && b && c) ≡ false
second_false true false c e = refl
second_false false false c e = refl
second_false a true c e = cc

tests_agree : (negative : Bool) (n d : ℕ) → ltb n past_all ≡ true → ltb d past_all ≡ true → leb n (2 ^ 127 - 1) ≡ true
    → leb d (2 ^ 127 - 1) ≡ true
    → cond (eqb d 0) (Err ZeroDenominator) (cond (leb n (2 ^ 127 - 1) && leb d (2 ^ 127 - 1) && fits (fraction_of (signed negative n) d))
    (Ok (fraction_of (signed negative n) d)) (Err Range)) ≡ fraction_answer negative n d
tests_agree negative n d a b p q =
    let F = fraction_of (signed negative n) d in
    let same : (leb n (2 ^ 127 - 1) && leb d (2 ^ 127 - 1) && fits F) ≡ (ltb n past_all && ltb d past_all && fits F) =
    ap (λ x. x && leb d (2 ^ 127 - 1) && fits F) (p ∙ sym a) ∙ ap (λ x. ltb n past_all && x && fits F) (q ∙ sym b) in
    ap (λ x. cond (eqb d 0) over_zero (cond x (Ok F) (Err Range))) same

-- keeping one past_all the limit for all that is past_all it changes no answer
capped_answer : (negative : Bool) (n d : ℕ)
    → cond (eqb d 0) (Err ZeroDenominator) (cond (leb n (2 ^ 127 - 1) && leb d (2 ^ 127 - 1) && fits (fraction_of (signed negative n) d))
    (Ok (fraction_of (signed negative n) d)) (Err Range)) ≡ fraction_answer negative (min n past_all) (min d past_all)
capped_answer negative n d =
    ⊎_elim
    (λ n_small. ⊎_elim
    (λ d_small.
    let same_n : min n past_all ≡ n = omega arith in
    let same_d : min d past_all ≡ d = omega arith in
    let n_fits : n ≤ 2 ^ 127 - 1 = omega arith in
    let d_fits : d ≤ 2 ^ 127 - 1 = omega arith in
    tests_agree negative n d (lt-ltb n past_all n_small) (lt-ltb d past_all d_small) (le-leb n (2 ^ 127 - 1) n_fits) (le-leb d (2 ^ 127 - 1) d_fits)
    ∙ ap (λ x. fraction_answer negative x d) (sym same_n) ∙ ap (fraction_answer negative (min n past_all)) (sym same_d))
    (λ d_large. out d _ _ _ _ (second_false (leb n (2 ^ 127 - 1)) (leb d (2 ^ 127 - 1)) _ (lt-leb d (2 ^ 127 - 1) (omega arith)))
    (second_false (ltb (min n past_all) past_all) (ltb (min d past_all) past_all) _ (le-ltb (min d past_all) past_all (omega arith))))
    (cases_lt d past_all))
    (λ n_large. out d _ _ _ _ (first_false (leb n (2 ^ 127 - 1)) (leb d (2 ^ 127 - 1)) _ (lt-leb n (2 ^ 127 - 1) (omega arith)))
    (first_false (ltb (min n past_all) past_all) (ltb (min d past_all) past_all) _ (le-ltb (min n past_all) past_all (omega arith))))
    (cases_lt n past_all)

by_body : (bytes : List ℕ) (b : Option Body)
    → answer_if (is_minus (sign_of bytes)) (option_map quotient_of b)
    ≡ value_if (option_map (λ body. record { sign = sign_of bytes; body = body }) b)
unfolding value_of
by_body bytes None = refl
by_body bytes (Some b) = sym (capped_answer (is_minus (sign_of bytes)) (numerator b) (denominator b))

-- a literal is answered by its sign and the two numbers of its body, as far as they are kept
pub read_as_literal-answer : (bytes : List ℕ) (o : Option Quotient) (negative : Bool)
    → o ≡ option_map quotient_of (body_of (after_sign bytes)) → negative ≡ is_minus (sign_of bytes)
    → answer_if negative o ≡ read_as_literal bytes
unfolding read_as_literal literal_of
read_as_literal-answer bytes o negative e f =
    ap (answer_if negative) e ∙ ap (λ b. answer_if b (option_map quotient_of (body_of (after_sign bytes)))) f ∙ by_body bytes (body_of (after_sign bytes))

-- ---- at the returns

-- a denominator of 0 is answered with its fault
pub zero_answer : (negative : Bool) (q : Quotient) → q.den ≡ 0
    → Err ZeroDenominator ≡ fraction_answer negative q.num q.den
zero_answer negative q e = rw e refl

-- a part past all limits is answered as out of range
pub past_answer : (negative : Bool) (q : Quotient) → (q.den ≡ 0 → ⊥) → (past_all ≤ q.num) ⊎ (past_all ≤ q.den)
    → Err Range ≡ fraction_answer negative q.num q.den
past_answer negative q some h =
    let no : (ltb q.num past_all && ltb q.den past_all && fits (fraction_of (signed negative q.num) q.den)) ≡ false =
    ⊎_elim (λ p. first_false (ltb q.num past_all) (ltb q.den past_all) _ (le-ltb q.num past_all p))
    (λ p. second_false (ltb q.num past_all) (ltb q.den past_all) _ (le-ltb q.den past_all p)) h in
    rw (ne_eqb q.den 0 some, no) refl

fit_answer : (o : Option Fraction) (f : Fraction) → SomeIff o (IsTrue (fits f)) f
    → ok_or o Range ≡ cond (fits f) (Ok f) (Err Range)
fit_answer None f h = rw (false_from_ne_true (fits f) h) refl
fit_answer (Some x) f h = rw h.0 (ap Ok h.1)

-- two parts that are kept exactly are answered by their fraction if it fits, and else as out of range
pub within_answer : (negative : Bool) (q : Quotient) (o : Option Fraction) (r : Result Fraction NumberFault)
    → (q.den ≡ 0 → ⊥) → q.num < past_all → q.den < past_all
    → SomeIff o (IsTrue (fits (fraction_of (signed negative q.num) q.den))) (fraction_of (signed negative q.num) q.den)
    → r ≡ ok_or o Range → r ≡ fraction_answer negative q.num q.den
within_answer negative q o r some n d h e =
    e ∙ fit_answer o (fraction_of (signed negative q.num) q.den) h ∙ sym (rw (ne_eqb q.den 0 some, lt-ltb q.num past_all n, lt-ltb q.den past_all d) refl)

-- the clauses of the answer
pub judged-at : (bytes : List ℕ) (r : Result Fraction NumberFault) → r ≡ read_as_literal bytes → JudgesLiteral bytes r
judged-at bytes r e = subst (λ (x : Result Fraction NumberFault). JudgesLiteral bytes x) (sym e) (read_as_literal-judged bytes)

-- a fraction that is answered is the value of the literal
pub value-at : (bytes : List ℕ) (r : Result Fraction NumberFault) → JudgesLiteral bytes r → IfOk r (IsLiteralOf bytes)
value-at bytes (Ok f) j = (j.value f).0 refl
value-at bytes (Err e) j = tt
