-- The laws of what is made of formats: behind a fixed field, under another form, many values, a value that is asked
-- for, and a row of numbers.
use Rattle.std.proofs.Common.{◌≡◌, ℕ, zero, suc, ◌+◌, ◌^◌, ◌<◌, ◌≤◌, Bool, true, false, cond, leb, List, [], ◌∷◌, ◌&&◌, Option, Some, None, Result, Ok, Err}
use Rattle.std.proofs.Common.{refl, ap, ◌∙◌, arith}
use Rattle.std.specs.Prelude.{not}
use Rattle.std.specs.Fmt.{decimal}
use Rattle.std.proofs.lemmas.Bool.{and_parts, and_from, le-leb}
use Rattle.def_cert_text.specs.declared.fault.CertFault.{CertFault}
use Rattle.def_cert_text.specs.Fields.{◌>>=◌, space, feed, FieldKind, number, field, separator, is_field_byte}
use Rattle.def_cert_text.specs.Formats.{Format, whole_field, fixed_field, after_fixed, and_then, seen_as, each_fits, each_items, read_each, each_from}
use Rattle.def_cert_text.specs.Formats.{where_asked, row_fits, row_items, read_number, read_last, read_row, row_of_numbers}
use Rattle.def_cert_text.proofs.FieldLaws.{all_pass}
use Rattle.def_cert_text.proofs.FormatLaws.{IsFormat, view_laws, nothing_laws, pair_laws}
use Rattle.def_cert_text.proofs.FieldFormatLaws.{whole_laws, fixed_laws, is_from_to, number_with_end, number_laws, got}

-- ---- under another form
-- a format keeps the laws under another form, where from each form to the other and back nothing changes
pub seen_laws : (A B : Type 0) (to : A → B) (from : B → A) (f : Format A) → ((x : A) → from (to x) ≡ x)
    → ((y : B) → to (from y) ≡ y) → IsFormat A f → IsFormat B (seen_as to from f)
seen_laws A B to from f there back laws = view_laws A B f (seen_as to from f) to
    (record {
      fits = λ x fit. ap f.fits (there x) ∙ fit;
      back = λ y fit. (from y, fit, back y);
      items = λ x fit. ap f.items (there x);
      read = λ total bytes. refl;
    }) laws

-- ---- behind a fixed field
after_read : (A : Type 0) (f : Format A) (total : ℕ) (r : Result (Unit {0} × List ℕ) CertFault)
    → (r >>= λ w. f.read total w.1)
    ≡ ((r >>= λ w. f.read total w.1 >>= λ y. got {A = Unit {0} × A} (w.0, y.0) y.1) >>= λ p. got p.0.1 p.1)
after_read A f total (Ok w) = inner (f.read total w.1)
  where
    inner : (q : Result (A × List ℕ) CertFault)
        → q ≡ ((q >>= λ y. got {A = Unit {0} × A} (w.0, y.0) y.1) >>= λ p. got p.0.1 p.1)
    inner (Ok y) = refl
    inner (Err d) = refl
after_read A f total (Err d) = refl

-- a format that keeps the laws does so behind a fixed field too, where that holds no separator and one ends it
pub after_laws : (A : Type 0) (kind : FieldKind) (wanted : List ℕ) (sep : ℕ) (f : Format A)
    → all_pass is_field_byte wanted ≡ true → is_field_byte sep ≡ false → IsFormat A f
    → IsFormat A (after_fixed kind wanted sep f)
after_laws A kind wanted sep f h s laws =
    view_laws (Unit {0} × A) A (and_then (fixed_field kind wanted sep) (λ _. f)) (after_fixed kind wanted sep f) (λ p. p.1)
    (record {
      fits = λ p fit. fit;
      back = λ y fit. ((tt, y), fit, refl);
      items = λ p fit. refl;
      read = λ total bytes. after_read A f total ((fixed_field kind wanted sep).read total bytes);
    })
    (pair_laws (Unit {0}) A (fixed_field kind wanted sep) (λ _. f) (fixed_laws kind wanted sep h s) (λ w fit. laws))

-- ---- many values
each_read : (A : Type 0) (f : ℕ → Format A) (k count total : ℕ) (r : Result (A × List ℕ) CertFault)
    → (r >>= λ x. read_each f (k + 1) count total x.1 >>= λ xs. got (x.0 ∷ xs.0) xs.1)
    ≡ ((r >>= λ x. read_each f (k + 1) count total x.1 >>= λ xs. got {A = A × List A} (x.0, xs.0) xs.1) >>= λ p. got (p.0.0 ∷ p.0.1) p.1)
each_read A f k count total (Ok x) = inner (read_each f (k + 1) count total x.1)
  where
    inner : (q : Result (List A × List ℕ) CertFault)
        → (q >>= λ xs. got (x.0 ∷ xs.0) xs.1) ≡ ((q >>= λ xs. got {A = A × List A} (x.0, xs.0) xs.1) >>= λ p. got (p.0.0 ∷ p.0.1) p.1)
    inner (Ok xs) = refl
    inner (Err d) = refl
each_read A f k count total (Err d) = refl

none_alone : (A : Type 0) (f : ℕ → Format A) (k : ℕ) (xs : List A) → each_fits f k zero xs ≡ true → xs ≡ []
unfolding each_fits
none_alone A f k [] fit = refl
none_alone A f k (x ∷ xs) fit = absurd cc

more_back : (A : Type 0) (f : ℕ → Format A) (k count : ℕ) (xs : List A) → each_fits f k (suc count) xs ≡ true
    → (p : A × List A) × (((f k).fits p.0 && each_fits f (k + 1) count p.1) ≡ true) × ◌≡◌ {A = List A} (p.0 ∷ p.1) xs
unfolding each_fits
more_back A f k count [] fit = absurd cc
more_back A f k count (x ∷ xs) fit = ((x, xs), fit, refl)

-- where the formats of so many numbers from k on keep the laws, so does that of a list with one value by each
pub each_laws : (A : Type 0) (f : ℕ → Format A) (count k : ℕ) → ((j : ℕ) → k ≤ j → j < k + count → IsFormat A (f j))
    → IsFormat (List A) (each_from k count f)
unfolding each_fits each_items read_each
each_laws A f zero k laws = nothing_laws (List A) (each_from k zero f) [] (record {
  fits = refl;
  alone = none_alone A f k;
  items = refl;
  read = λ total bytes. refl;
})
each_laws A f (suc count) k laws =
    view_laws (A × List A) (List A) (and_then (f k) (λ _. each_from (k + 1) count f)) (each_from k (suc count) f) (λ p. p.0 ∷ p.1)
    (record {
      fits = λ p fit. fit;
      back = more_back A f k count;
      items = λ p fit. refl;
      read = λ total bytes. each_read A f k count total ((f k).read total bytes);
    })
    (pair_laws A (List A) (f k) (λ _. each_from (k + 1) count f) (laws k (omega arith) (omega arith))
    (λ x fit. each_laws A f count (k + 1) (λ j low high. laws j (omega arith) (omega arith))))

-- ---- a value that is asked for
asked_back : (A : Type 0) (f : Format A) (y : Option A) → (where_asked true f).fits y ≡ true
    → (x : A) × (f.fits x ≡ true) × ◌≡◌ {A = Option A} (Some x) y
asked_back A f (Some x) fit = (x, fit, refl)
asked_back A f None fit = absurd cc

none_back : (A : Type 0) (f : Format A) (y : Option A) → (where_asked false f).fits y ≡ true → y ≡ None
none_back A f (Some x) fit = absurd cc
none_back A f None fit = refl

-- the format of a value that is there just where asked for keeps the laws, if the value's own does when asked for
pub asked_laws : (A : Type 0) (asked : Bool) (f : Format A) → (asked ≡ true → IsFormat A f)
    → IsFormat (Option A) (where_asked asked f)
asked_laws A true f laws =
    view_laws A (Option A) f (where_asked true f) Some
    (record {
      fits = λ x fit. fit;
      back = asked_back A f;
      items = λ x fit. refl;
      read = λ total bytes. refl;
    })
    (laws refl)
asked_laws A false f laws = nothing_laws (Option A) (where_asked false f) None (record {
  fits = refl;
  alone = none_back A f;
  items = refl;
  read = λ total bytes. refl;
})

-- ---- a row of numbers: a number, and where it isn't the last a row behind it
abbrev behind_number : ℕ → ℕ → (ℕ × Bool) → Format (Option (List ℕ))
behind_number most more p = where_asked (not p.1) (row_of_numbers most more)

abbrev row_behind : ℕ → Option (List ℕ) → List ℕ
row_behind n None = n ∷ []
row_behind n (Some ns) = n ∷ ns

abbrev row_by : ((ℕ × Bool) × Option (List ℕ)) → List ℕ
row_by p = row_behind p.0.0 p.1

fits_by : (most more n : ℕ) (last : Bool) (o : Option (List ℕ)) → leb n most ≡ true
    → (behind_number most more (n, last)).fits o ≡ true → row_fits most (suc more) (row_behind n o) ≡ true
fits_by most more n true None h fit = h
fits_by most more n true (Some ns) h fit = absurd cc
fits_by most more n false None h fit = absurd cc
fits_by most more n false (Some []) h fit = absurd (none more fit)
  where
    none : (more : ℕ) → row_fits most more [] ≡ true → ⊥
    none zero fit = cc
    none (suc more) fit = cc
fits_by most more n false (Some (m ∷ ns)) h fit = and_from (leb n most) (row_fits most more (m ∷ ns)) h fit

items_by : (most more n : ℕ) (last : Bool) (o : Option (List ℕ)) → (behind_number most more (n, last)).fits o ≡ true
    → row_items (row_behind n o)
    ≡ field number (decimal n) ∷ separator (cond last feed space) ∷ (behind_number most more (n, last)).items o
items_by most more n true None fit = refl
items_by most more n true (Some ns) fit = absurd cc
items_by most more n false None fit = absurd cc
items_by most more n false (Some []) fit = absurd (none more fit)
  where
    none : (more : ℕ) → row_fits most more [] ≡ true → ⊥
    none zero fit = cc
    none (suc more) fit = cc
items_by most more n false (Some (m ∷ ns)) fit = refl

from_zero : (most n : ℕ) → leb n most ≡ true → is_from_to 0 most n ≡ true
from_zero most n h = and_from (leb 0 n) (leb n most) (le-leb 0 n (omega arith)) h

row_back : (most more : ℕ) (ns : List ℕ) → row_fits most (suc more) ns ≡ true
    → (p : (ℕ × Bool) × Option (List ℕ)) × ((is_from_to 0 most p.0.0 && (behind_number most more p.0).fits p.1) ≡ true)
    × (row_by p ≡ ns)
row_back most more [] fit = absurd cc
row_back most more (n ∷ []) fit = (((n, true), None), and_from (is_from_to 0 most n) true (from_zero most n fit) refl, refl)
row_back most more (n ∷ m ∷ ns) fit =
    let p = and_parts (leb n most) (row_fits most more (m ∷ ns)) fit in
    (((n, false), Some (m ∷ ns)), and_from (is_from_to 0 most n) (row_fits most more (m ∷ ns)) (from_zero most n p.0) p.1, refl)

abbrev next_row : ℕ → ℕ → ℕ → ((ℕ × Bool) × List ℕ) → Result (List ℕ × List ℕ) CertFault
next_row most more total n = cond n.0.1 (got (n.0.0 ∷ []) n.1) (read_row most more total n.1 >>= λ ns. got (n.0.0 ∷ ns.0) ns.1)

abbrev next_pair : ℕ → ℕ → ℕ → ((ℕ × Bool) × List ℕ) → Result (((ℕ × Bool) × Option (List ℕ)) × List ℕ) CertFault
next_pair most more total n = (behind_number most more n.0).read total n.1 >>= λ y. got (n.0, y.0) y.1

row_read_by : (most more total n : ℕ) (last : Bool) (left : List ℕ) → next_row most more total ((n, last), left) ≡
    (next_pair most more total ((n, last), left) >>= λ p. got (row_by p.0) p.1)
row_read_by most more total n true left = refl
row_read_by most more total n false left = inner (read_row most more total left)
  where
    inner : (q : Result (List ℕ × List ℕ) CertFault)
        → (q >>= λ ns. got (n ∷ ns.0) ns.1)
        ≡ (((q >>= λ x. got (Some x.0) x.1) >>= λ y. got ((n, false), y.0) y.1) >>= λ p. got (row_by p.0) p.1)
    inner (Ok ns) = refl
    inner (Err d) = refl

row_read : (most more total : ℕ) (r : Result ((ℕ × Bool) × List ℕ) CertFault)
    → (r >>= next_row most more total) ≡ ((r >>= next_pair most more total) >>= λ p. got (row_by p.0) p.1)
row_read most more total (Ok n) = row_read_by most more total n.0.0 n.0.1 n.1
row_read most more total (Err d) = refl

last_back : (most : ℕ) (ns : List ℕ) → row_fits most zero ns ≡ true
    → (n : ℕ) × ((leb 0 n && leb n most) ≡ true) × ◌≡◌ {A = List ℕ} (n ∷ []) ns
last_back most [] fit = absurd cc
last_back most (n ∷ []) fit = (n, and_from (leb 0 n) (leb n most) (le-leb 0 n (omega arith)) fit, refl)
last_back most (n ∷ m ∷ ns) fit = absurd cc

-- the format of a row, a number and up to so many more, keeps the laws where the numbers' limit is 2 ^ 127 at most
pub row_laws : (most : ℕ) → most ≤ 2 ^ 127 → (more : ℕ) → IsFormat (List ℕ) (row_of_numbers most more)
unfolding read_row read_last
row_laws most small zero =
    view_laws ℕ (List ℕ) (whole_field 0 most feed) (row_of_numbers most zero) (λ n. n ∷ [])
    (record {
      fits = λ n fit. (and_parts (leb 0 n) (leb n most) fit).1;
      back = last_back most;
      items = λ n fit. refl;
      read = λ total bytes. refl;
    })
    (whole_laws 0 most feed (omega arith) small refl)
row_laws most small (suc more) =
    view_laws ((ℕ × Bool) × Option (List ℕ)) (List ℕ) (and_then (number_with_end 0 most) (behind_number most more)) (row_of_numbers most (suc more)) row_by
    (record {
      fits = λ p fit.
          let q = and_parts (is_from_to 0 most p.0.0) ((behind_number most more p.0).fits p.1) fit in
          fits_by most more p.0.0 p.0.1 p.1 (and_parts (leb 0 p.0.0) (leb p.0.0 most) q.0).1 q.1;
      back = row_back most more;
      items = λ p fit. (let q = and_parts (is_from_to 0 most p.0.0) ((behind_number most more p.0).fits p.1) fit in items_by most more p.0.0 p.0.1 p.1 q.1);
      read = λ total bytes. row_read most more total (read_number 0 most total bytes);
    })
    (pair_laws (ℕ × Bool) (Option (List ℕ)) (number_with_end 0 most) (behind_number most more) (number_laws 0 most (omega arith) small)
    (λ p fit. asked_laws (List ℕ) (not p.1) (row_of_numbers most more) (λ _. row_laws most small more)))
