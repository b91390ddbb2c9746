-- What the answer of reading a literal says of the bytes.
use Rattle.std.proofs.Common.{◌≡◌, ◌≢◌, ℕ, zero, suc, ◌<◌, Bool, true, false, cond, ◌&&◌, eqb, List, Option, Some, None, Result, Ok, Err, refl, sym, ap, ◌∙◌}
use Rattle.std.proofs.Common.{subst, arith}
use Rattle.std.specs.Prelude.{◌↔◌, nat_le}
use Rattle.std.proofs.lemmas.Bool.{and_parts, and_from, leb-true, le-leb, eqb-true, eqb-false, eq-eqb, ne_eqb, false≢true, false_from_ne_true}
use Rattle.def_fraction.specs.declared.fault.NumberFault.{NumberFault}
use Rattle.def_fraction.specs.declared.fault.NumberFault.TheVariants.{Form, ZeroDenominator, Range}
use Rattle.def_fraction.specs.Fraction.{Fraction, fits}
use Rattle.def_fraction.specs.Literal.{Literal, IsLiteral, IsInRange, numerator, denominator, exact_value, most_written}
use Rattle.def_fraction.specs.Reading.{literal_of, value_of, value_if, read_as_literal}
use Rattle.def_fraction.specs.Laws.{JudgesLiteral}
use Rattle.def_fraction.proofs.LiteralLemmas.{literal_of-IsLiteral}

-- the answers by the two tests
record Judged (zero within : Bool) (x : Fraction) (v : Result Fraction NumberFault) : Type 0 where
  form : v ≢ Err Form
  over_zero : (v ≡ Err ZeroDenominator) ↔ (zero ≡ true)
  range : (v ≡ Err Range) ↔ ((zero ≡ false) × (within ≡ false))
  value : (f : Fraction) → (v ≡ Ok f) ↔ ((zero ≡ false) × (within ≡ true) × (f ≡ x))

judged : (zero within : Bool) (x : Fraction)
    → Judged zero within x (cond zero (Err ZeroDenominator) (cond within (Ok x) (Err Range)))
judged true within x = record {
  form = λ e. cc;
  over_zero = (λ e. refl, λ e. refl);
  range = (λ e. cc, λ e. cc);
  value = λ f. (λ e. cc, λ e. cc);
}
judged false true x = record {
  form = λ e. cc;
  over_zero = (λ e. cc, λ e. cc);
  range = (λ e. cc, λ e. cc);
  value = λ f. (λ e. (refl, refl, cc), λ e. ap Ok (sym e.2));
}
judged false false x = record {
  form = λ e. cc;
  over_zero = (λ e. cc, λ e. cc);
  range = (λ e. (refl, refl), λ e. refl);
  value = λ f. (λ e. cc, λ e. cc);
}

abbrev within_test : Literal → Bool
within_test l = nat_le (numerator l.body) most_written && nat_le (denominator l.body) most_written && fits (exact_value l)

within_from_test : (l : Literal) → within_test l ≡ true → IsInRange l
within_from_test l h =
    let outer = and_parts (nat_le (numerator l.body) most_written && nat_le (denominator l.body) most_written) (fits (exact_value l)) h in
    let inner = and_parts (nat_le (numerator l.body) most_written) (nat_le (denominator l.body) most_written) outer.0 in
    record {
      numerator_written = leb-true (numerator l.body) most_written inner.0;
      denominator_written = leb-true (denominator l.body) most_written inner.1;
      in_lowest_terms = outer.1;
    }

test_from_within : (l : Literal) → IsInRange l → within_test l ≡ true
test_from_within l w =
    and_from _ _ (and_from _ _ (le-leb (numerator l.body) most_written w.numerator_written) (le-leb (denominator l.body) most_written w.denominator_written))
    w.in_lowest_terms

value_of-judged : (l : Literal) → Judged (eqb (denominator l.body) 0) (within_test l) (exact_value l) (value_of l)
unfolding value_of
value_of-judged l = judged (eqb (denominator l.body) 0) (within_test l) (exact_value l)

positive_from_test : (d : ℕ) → eqb d 0 ≡ false → 0 < d
positive_from_test zero h = absurd (eqb-false 0 0 h refl)
positive_from_test (suc d) h = omega arith

test_from_positive : (d : ℕ) → 0 < d → eqb d 0 ≡ false
test_from_positive d h = ne_eqb d 0 (λ e. omega arith)

-- the answers by the literal that is read
by_literal : (bytes : List ℕ) (read : Option Literal) → literal_of bytes ≡ read → JudgesLiteral bytes (value_if read)
by_literal bytes None e =
    let none : (l : Literal) → IsLiteral bytes l → ⊥ = λ l w. let found : None ≡ Some l = sym e ∙ (literal_of-IsLiteral bytes l).1 w in cc in
    record {
      form = (λ _. none, λ _. refl);
      zero_denominator = (λ h. cc, λ w. absurd (none w.0 w.1));
      range = (λ h. cc, λ w. absurd (none w.0 w.1));
      value = λ f. (λ h. cc, λ w. absurd (none w.0 w.1));
    }
by_literal bytes (Some l) e =
    let shown : IsLiteral bytes l = (literal_of-IsLiteral bytes l).0 e in
    let only : (k : Literal) → IsLiteral bytes k → k ≡ l = λ k w. let both : Some k ≡ Some l = sym ((literal_of-IsLiteral bytes k).1 w) ∙ e in cc in
    let j = value_of-judged l in
    record {
      form = (λ h. absurd (j.form h), λ none. absurd (none l shown));
      zero_denominator = (
        λ h. (l, shown, eqb-true (denominator l.body) 0 (j.over_zero.0 h)),
        λ w. j.over_zero.1 (eq-eqb (denominator l.body) 0 (ap (λ (k : Literal). denominator k.body) (sym (only w.0 w.1)) ∙ w.2)),
      );
      range = (
        λ h. let t = j.range.0 h in (l, shown, positive_from_test (denominator l.body) t.0, λ w. false≢true (sym t.1 ∙ test_from_within l w)),
        λ w. j.range.1 (
          test_from_positive (denominator l.body) (subst (λ (k : Literal). 0 < denominator k.body) (only w.0 w.1) w.2),
          false_from_ne_true (within_test l) (λ t. w.3 (subst (λ (k : Literal). IsInRange k) (sym (only w.0 w.1)) (within_from_test l t))),
        ),
      );
      value = λ f. (
        λ h. let t = (j.value f).0 h in (l, shown, positive_from_test (denominator l.body) t.0, within_from_test l t.1, t.2),
        λ w. (j.value f).1 (
          test_from_positive (denominator l.body) (subst (λ (k : Literal). 0 < denominator k.body) (only w.0 w.1) w.2),
          test_from_within l (subst (λ (k : Literal). IsInRange k) (only w.0 w.1) w.3),
          w.4 ∙ ap exact_value (only w.0 w.1),
        ),
      );
    }

-- what reading gives says what the bytes are, and the other way round
pub read_as_literal-judged : (bytes : List ℕ) → JudgesLiteral bytes (read_as_literal bytes)
unfolding read_as_literal
read_as_literal-judged bytes = by_literal bytes (literal_of bytes) refl
