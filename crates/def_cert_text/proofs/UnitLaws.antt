-- The laws of the unit and the sum behind it.
use Rattle.std.proofs.Common.{◌≡◌, ℕ, ◌&&◌, Bool, true, false, cond, List, [], ◌∷◌, Option, Some, None, Result, Ok, Err, unsigned_abs, refl, sym, ap, ◌∙◌}
use Rattle.std.proofs.Common.{arith}
use Rattle.std.specs.Prelude.{not, codes, unwrap_or, ℤ, pos, negsuc}
use Rattle.std.specs.Fmt.{decimal}
use Rattle.std.proofs.lemmas.Bool.{and_parts, and_from, eqb-true, not-true}
use Rattle.std.proofs.Math.Nat.{zero-mod}
use Rattle.def_fraction.specs.Divisors.{gcd}
use Rattle.def_fraction.specs.Fraction.{Fraction, most, zero_fraction, is_zero}
use Rattle.def_fraction.proofs.DivisorLemmas.{gcd-turn, gcd-zero}
use Rattle.def_cert_text.specs.declared.fault.CertFault.{CertFault}
use Rattle.def_cert_text.specs.Fields.{◌>>=◌, space, feed, fixed_word, number, field, separator}
use Rattle.def_cert_text.specs.Formats.{Format, is_lowest_within, and_then, where_asked, read_number}
use Rattle.def_cert_text.specs.CertText.{sum_field, unit_and_sum}
use Rattle.def_cert_text.proofs.FieldLaws.{lowest_parts}
use Rattle.def_cert_text.proofs.FormatLaws.{IsFormat, view_laws, pair_laws}
use Rattle.def_cert_text.proofs.FieldFormatLaws.{is_from_to, number_with_end, number_laws, nonzero_laws, got}
use Rattle.def_cert_text.proofs.CombinedFormatLaws.{after_laws, asked_laws}

-- a unit, whether it ends its line, and the sum where it doesn't
abbrev UnitParts : Type 0
UnitParts = (ℕ × Bool) × Option Fraction

abbrev behind_unit : (ℕ × Bool) → Format (Option Fraction)
behind_unit p = where_asked (not p.1) sum_field

abbrev sum_said : UnitParts → ℕ × Fraction
sum_said p = (p.0.0, unwrap_or p.1 zero_fraction)

sum_within : (k : Fraction) → sum_field.fits k ≡ true → (is_lowest_within most k ≡ true) × (is_zero k ≡ false)
sum_within k fit =
    let p = and_parts (is_lowest_within most k) (not (is_zero k)) fit in
    (p.0, not-true (is_zero k) p.1)

fits_by : (n : ℕ) (last : Bool) (o : Option Fraction) → is_from_to 1 most n ≡ true
    → (behind_unit (n, last)).fits o ≡ true → unit_and_sum.fits (n, unwrap_or o zero_fraction) ≡ true
unfolding gcd
fits_by n true None h fit = and_from (is_from_to 1 most n) true h refl
fits_by n true (Some k) h fit = absurd cc
fits_by n false None h fit = absurd cc
fits_by n false (Some k) h fit = and_from (is_from_to 1 most n) (is_lowest_within most k) h (sum_within k fit).0

items_by : (n : ℕ) (last : Bool) (o : Option Fraction) → (behind_unit (n, last)).fits o ≡ true
    → unit_and_sum.items (n, unwrap_or o zero_fraction)
    ≡ field number (decimal n) ∷ separator (cond last feed space) ∷ (behind_unit (n, last)).items o
items_by n true None fit = refl
items_by n true (Some k) fit = absurd cc
items_by n false None fit = absurd cc
items_by n false (Some k) fit =
    ap (λ t. field number (decimal n) ∷ cond t (separator feed ∷ []) (separator space ∷ sum_field.items k)) (sum_within k fit).1

no_size : (n : ℤ) → unsigned_abs n ≡ 0 → n ≡ pos 0
no_size (pos n) e = ap pos e
no_size (negsuc n) e = absurd cc

-- a fraction in lowest terms whose numerator is 0
no_sum : (k : Fraction) → is_lowest_within most k ≡ true → is_zero k ≡ true → zero_fraction ≡ k
no_sum k fit none =
    let low = lowest_parts most k fit in
    let size : unsigned_abs k.num ≡ 0 = eqb-true (unsigned_abs k.num) 0 none in
    let den : k.den ≡ 1 = sym (gcd-zero k.den) ∙ sym (ap (gcd k.den) (zero-mod k.den)) ∙ gcd-turn 0 k.den ∙ ap (λ n. gcd n k.den) (sym size) ∙ low.coprime in
    let num : k.num ≡ pos 0 = no_size k.num size in
    λ i. record { num = sym num i; den = sym den i }

unit_back : (n : ℕ) (k : Fraction) (none : Bool) → is_zero k ≡ none → unit_and_sum.fits (n, k) ≡ true
    → (p : UnitParts) × ((is_from_to 1 most p.0.0 && (behind_unit p.0).fits p.1) ≡ true) × (sum_said p ≡ (n, k))
unit_back n k true h fit =
    let q = and_parts (is_from_to 1 most n) (is_lowest_within most k) fit in
    (((n, true), None), and_from (is_from_to 1 most n) true q.0 refl, ap (λ z. (n, z)) (no_sum k q.1 h))
unit_back n k false h fit =
    let q = and_parts (is_from_to 1 most n) (is_lowest_within most k) fit in
    let sum : sum_field.fits k ≡ true = and_from (is_lowest_within most k) (not (is_zero k)) q.1 (ap not h) in
    (((n, false), Some k), and_from (is_from_to 1 most n) (sum_field.fits k) q.0 sum, refl)

abbrev next_sum : ℕ → ((ℕ × Bool) × List ℕ) → Result ((ℕ × Fraction) × List ℕ) CertFault
next_sum total n = cond n.0.1 (got (n.0.0, zero_fraction) n.1) (sum_field.read total n.1 >>= λ k. got (n.0.0, k.0) k.1)

abbrev next_parts : ℕ → ((ℕ × Bool) × List ℕ) → Result (UnitParts × List ℕ) CertFault
next_parts total n = (behind_unit n.0).read total n.1 >>= λ y. got (n.0, y.0) y.1

sum_read_by : (total n : ℕ) (last : Bool) (left : List ℕ)
    → next_sum total ((n, last), left) ≡ (next_parts total ((n, last), left) >>= λ p. got (sum_said p.0) p.1)
sum_read_by total n true left = refl
sum_read_by total n false left = inner (sum_field.read total left)
  where
    inner : (q : Result (Fraction × List ℕ) CertFault)
        → (q >>= λ k. got (n, k.0) k.1)
        ≡ (((q >>= λ x. got (Some x.0) x.1) >>= λ y. got ((n, false), y.0) y.1) >>= λ p. got (sum_said p.0) p.1)
    inner (Ok k) = refl
    inner (Err d) = refl

sum_read : (total : ℕ) (r : Result ((ℕ × Bool) × List ℕ) CertFault)
    → (r >>= next_sum total) ≡ ((r >>= next_parts total) >>= λ p. got (sum_said p.0) p.1)
sum_read total (Ok n) = sum_read_by total n.0.0 n.0.1 n.1
sum_read total (Err d) = refl

-- the unit with its sum keeps the laws of a format
pub unit_laws : IsFormat (ℕ × Fraction) unit_and_sum
unit_laws =
    view_laws UnitParts (ℕ × Fraction) (and_then (number_with_end 1 most) behind_unit) unit_and_sum sum_said
    (record {
      fits = λ p fit. (let q = and_parts (is_from_to 1 most p.0.0) ((behind_unit p.0).fits p.1) fit in fits_by p.0.0 p.0.1 p.1 q.0 q.1);
      back = λ y fit. unit_back y.0 y.1 (is_zero y.1) refl fit;
      items = λ p fit. (let q = and_parts (is_from_to 1 most p.0.0) ((behind_unit p.0).fits p.1) fit in items_by p.0.0 p.0.1 p.1 q.1);
      read = λ total bytes. sum_read total (read_number 1 most total bytes);
    })
    (pair_laws (ℕ × Bool) (Option Fraction) (number_with_end 1 most) behind_unit (number_laws 1 most (omega arith) (omega arith))
    (λ p fit. asked_laws Fraction (not p.1) sum_field (λ _. after_laws Fraction fixed_word (codes "sum") space _ refl refl
    (nonzero_laws most feed (omega arith) (omega arith) refl))))
