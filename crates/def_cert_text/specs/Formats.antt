-- A format says which values fit, of which items they are made, and what reading gives:
-- one definition for writing and reading.
use Rattle.std.specs.Prelude.{ℕ, zero, suc, ◌+◌, ◌-◌, Bool, true, false, ◌==◌, ◌&&◌, not, nat_le, nat_eq, List, [], ◌∷◌}
use Rattle.std.specs.Prelude.{◌++◌, length, Option, Some, None, Result, Ok, Err, ℤ, unsigned_abs, if◌then◌else◌}
use Rattle.std.specs.Cmp.Lexicographic.{pointwise}
use Rattle.std.specs.Fmt.{decimal, signed_decimal}
use Rattle.def_fraction.specs.Divisors.{gcd}
use Rattle.def_fraction.specs.Fraction.{Fraction, is_zero}
use Rattle.def_fraction.specs.Text.{fraction_text}
use Rattle.def_cert_text.specs.declared.fault.CertFault.{CertFault}
use Rattle.def_cert_text.specs.declared.fault.CertFault.TheVariants.{CertNumber, CertShort}
use Rattle.def_cert_text.specs.Fields.{◌>>=◌, space, feed, FieldKind, number, TextItem, field, separator, items_text}
use Rattle.def_cert_text.specs.Fields.{next_field, behind_field, is_empty, read_field}
use Rattle.def_cert_text.specs.Numbers.{whole_in, integer_in, fraction_in, nonzero_in}

-- reading gives a value and the bytes that are left, from the length of the whole and the bytes from a place on
pub record Format (A : Type 0) : Type 0 where
  pub fits : A → Bool
  pub items : A → List TextItem
  pub read : ℕ → List ℕ → Result (A × List ℕ) CertFault

abbrev pub text_of : {A : Type 0} → Format A → A → List ℕ
text_of f x = items_text (f.items x)

-- ---- a field and its separator
abbrev pub one_field : {A : Type 0} → FieldKind → (A → Bool) → (A → List ℕ) → (List ℕ → Option A) → ℕ → Format A
one_field kind fits spelled test sep = record {
  fits = fits;
  items = λ x. field kind (spelled x) ∷ separator sep ∷ [];
  read = read_field kind test sep;
}

abbrev pub whole_field : ℕ → ℕ → ℕ → Format ℕ
whole_field low high sep = one_field number (λ n. nat_le low n && nat_le n high) decimal (whole_in low high) sep

abbrev pub integer_field : ℕ → ℕ → Format ℤ
integer_field most sep = one_field number (λ n. nat_le (unsigned_abs n) most) signed_decimal (integer_in most) sep

abbrev pub is_lowest_within : ℕ → Fraction → Bool
is_lowest_within most f = (nat_le 1 f.den && gcd (unsigned_abs f.num) f.den == 1)
    && (nat_le (unsigned_abs f.num) most && nat_le f.den most)

abbrev pub fraction_field : ℕ → ℕ → Format Fraction
fraction_field most sep = one_field number (is_lowest_within most) fraction_text (fraction_in most) sep

abbrev pub nonzero_field : ℕ → ℕ → Format Fraction
nonzero_field most sep = one_field number (λ f. is_lowest_within most f && not (is_zero f)) fraction_text
    (nonzero_in most) sep

-- the same bytes, which say nothing more
abbrev pub same_bytes : List ℕ → List ℕ → Option (Unit {0})
same_bytes wanted bytes = if pointwise nat_eq bytes wanted then Some tt else None

abbrev pub fixed_field : FieldKind → List ℕ → ℕ → Format (Unit {0})
fixed_field kind wanted sep = one_field kind (λ _. true) (λ _. wanted) (same_bytes wanted) sep

-- ---- one after another
-- a fixed field, and then a value
abbrev pub after_fixed : {A : Type 0} → FieldKind → List ℕ → ℕ → Format A → Format A
after_fixed kind wanted sep f = record {
  fits = f.fits;
  items = λ x. field kind wanted ∷ separator sep ∷ f.items x;
  read = λ total bytes. (fixed_field kind wanted sep).read total bytes >>= λ w. f.read total w.1;
}

-- a value, and then another by what the first says
abbrev pub and_then : {A B : Type 0} → Format A → (A → Format B) → Format (A × B)
and_then f g = record {
  fits = λ p. f.fits p.0 && (g p.0).fits p.1;
  items = λ p. f.items p.0 ++ (g p.0).items p.1;
  read = λ total bytes. f.read total bytes >>= λ x. (g x.0).read total x.1 >>= λ y. Ok ((x.0, y.0), y.1);
}

-- the same values under another form
abbrev pub seen_as : {A B : Type 0} → (A → B) → (B → A) → Format A → Format B
seen_as to from f = record {
  fits = λ y. f.fits (from y);
  items = λ y. f.items (from y);
  read = λ total bytes. f.read total bytes >>= λ x. Ok (to x.0, x.1);
}

-- so many values, the first by the format of the number k, the next by that of k + 1, and so on
unfoldable pub each_fits : {A : Type 0} → (ℕ → Format A) → ℕ → ℕ → List A → Bool
each_fits f k zero [] = true
each_fits f k zero (x ∷ xs) = false
each_fits f k (suc count) [] = false
each_fits f k (suc count) (x ∷ xs) = (f k).fits x && each_fits f (k + 1) count xs

unfoldable pub each_items : {A : Type 0} → (ℕ → Format A) → ℕ → List A → List TextItem
each_items f k [] = []
each_items f k (x ∷ xs) = (f k).items x ++ each_items f (k + 1) xs

unfoldable pub read_each : {A : Type 0} → (ℕ → Format A) → ℕ → ℕ → ℕ → List ℕ → Result (List A × List ℕ) CertFault
read_each f k zero total bytes = Ok ([], bytes)
read_each f k (suc count) total bytes = (f k).read total bytes >>= λ x. read_each f (k + 1) count total x.1 >>= λ xs. Ok
    (x.0 ∷ xs.0, xs.1)

abbrev pub each_from : {A : Type 0} → ℕ → ℕ → (ℕ → Format A) → Format (List A)
each_from k count f = record {
  fits = each_fits f k count;
  items = each_items f k;
  read = read_each f k count;
}

-- there exactly where it is asked for
abbrev pub asked_fits : {A : Type 0} → Bool → Format A → Option A → Bool
asked_fits true f (Some x) = f.fits x
asked_fits true f None = false
asked_fits false f (Some x) = false
asked_fits false f None = true

abbrev pub asked_items : {A : Type 0} → Format A → Option A → List TextItem
asked_items f None = []
asked_items f (Some x) = f.items x

abbrev pub read_asked : {A : Type 0} → Bool → Format A → ℕ → List ℕ → Result (Option A × List ℕ) CertFault
read_asked true f total bytes = f.read total bytes >>= λ x. Ok (Some x.0, x.1)
read_asked false f total bytes = Ok (None, bytes)

abbrev pub where_asked : {A : Type 0} → Bool → Format A → Format (Option A)
where_asked asked f = record {
  fits = asked_fits asked f;
  items = asked_items f;
  read = read_asked asked f;
}

-- ---- numbers up to the line feed: at least one, and as many more as may come
abbrev pub row_fits : ℕ → ℕ → List ℕ → Bool
row_fits most more [] = false
row_fits most more (n ∷ []) = nat_le n most
row_fits most zero (n ∷ m ∷ ns) = false
row_fits most (suc more) (n ∷ m ∷ ns) = nat_le n most && row_fits most more (m ∷ ns)

abbrev pub row_items : List ℕ → List TextItem
row_items [] = []
row_items (n ∷ []) = field number (decimal n) ∷ separator feed ∷ []
row_items (n ∷ m ∷ ns) = field number (decimal n) ∷ separator space ∷ row_items (m ∷ ns)

-- a number, and whether it is the last of its line
abbrev pub with_end : ℕ → List ℕ → Result ((ℕ × Bool) × List ℕ) CertFault
with_end n [] = Err CertShort
with_end n (byte ∷ left) = Ok ((n, byte == feed), left)

abbrev pub with_end_if_fit : CertFault → Option ℕ → List ℕ → Result ((ℕ × Bool) × List ℕ) CertFault
with_end_if_fit unfit None left = Err unfit
with_end_if_fit unfit (Some n) left = with_end n left

unfoldable pub read_number : ℕ → ℕ → ℕ → List ℕ → Result ((ℕ × Bool) × List ℕ) CertFault
read_number low high total bytes =
    if is_empty (behind_field bytes) then Err CertShort
    else with_end_if_fit (CertNumber (total - length bytes)) (whole_in low high (next_field bytes)) (behind_field bytes)

-- the number with which a line is full
unfoldable pub read_last : ℕ → ℕ → List ℕ → Result (List ℕ × List ℕ) CertFault
read_last most total bytes = (whole_field 0 most feed).read total bytes >>= λ n. Ok (n.0 ∷ [], n.1)

unfoldable pub read_row : ℕ → ℕ → ℕ → List ℕ → Result (List ℕ × List ℕ) CertFault
read_row most zero total bytes = read_last most total bytes
read_row most (suc more) total bytes =
    read_number 0 most total bytes >>= λ n. (if n.0.1 then Ok (n.0.0 ∷ [], n.1)
    else (read_row most more total n.1 >>= λ ns. Ok (n.0.0 ∷ ns.0, ns.1)))

abbrev pub row_of_numbers : ℕ → ℕ → Format (List ℕ)
row_of_numbers most more = record { fits = row_fits most more; items = row_items; read = read_row most more }
