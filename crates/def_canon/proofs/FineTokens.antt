-- The tokens of the canonical form are spelled as the format says.
use Rattle.std.proofs.Common.{◌≡◌, ◌≢◌, ℕ, zero, suc, ◌≤◌, ◌<◌, ◌^◌, Bool, true, false, List, [], ◌∷◌, ◌++◌, length, refl, arith}
use Rattle.std.specs.Prelude.{ℤ, cond, pos, negsuc, IsTrue, nat_eq, nat_le, nat_lt, codes, unsigned_abs}
use Rattle.std.specs.Char.{is_ascii_digit}
use Rattle.std.specs.Fmt.{decimal, signed_decimal}
use Rattle.std.specs.List.{AllPass}
use Rattle.std.specs.Str.{all_ascii_digits}
use Rattle.std.proofs.lemmas.Bool.{and_parts, le-leb, leb-true, false_from_ne_true, ne_eqb}
use Rattle.def_fraction.specs.Fraction.{Fraction, fits, most}
use Rattle.def_fraction.specs.Text.{fraction_text}
use Rattle.def_fraction.proofs.TextLemmas.{decimal-numeral}
use Rattle.def_file_tokens.specs.declared.Token.TheVariants as kinds
use Rattle.def_file_tokens.specs.Bytes.{is_space, in_run, begins_number, begins_word}
use Rattle.def_file_tokens.specs.Spelling.{Piece, ArePieces, bytes_of, FirstFails, FirstPasses, IsToken}
use Rattle.def_file_tokens.specs.Texts.{EndsPlainly, escaped}
use Rattle.def_file_tokens.proofs.TextLemmas.{escaped_is_inside}
use Rattle.def_canon.specs.Canon.{behind, close_piece, comma_piece, fraction, on_new_line, open_piece, quoted, spaced, text_piece, whole_piece}

-- each byte goes on with a run
Runs : List ℕ → Type 0
Runs [] = Unit {0}
Runs (b ∷ bs) = (in_run b ≡ true) × Runs bs

runs_pass : (bs : List ℕ) → Runs bs → AllPass in_run bs
unfolding Runs
runs_pass [] runs k d lt = absurd (omega arith)
runs_pass (b ∷ bs) runs zero d lt = runs.0
runs_pass (b ∷ bs) runs (suc k) d lt = runs_pass bs runs.1 k d (omega arith)

runs_append : (xs ys : List ℕ) → Runs xs → Runs ys → Runs (xs ++ ys)
unfolding Runs
runs_append [] ys first second = second
runs_append (x ∷ xs) ys first second = (first.0, runs_append xs ys first.1 second)

digit_runs : (d : ℕ) → is_ascii_digit d ≡ true → (in_run d ≡ true) × (begins_number d ≡ true)
digit_runs d e =
    let parts = and_parts (nat_le 48 d) (nat_le d 57) e in
    let low : 48 ≤ d = leb-true 48 d parts.0 in
    let high : d ≤ 57 = leb-true d 57 parts.1 in
    let a : nat_le 9 d ≡ true = le-leb 9 d (omega arith) in
    let b : nat_le d 13 ≡ false = false_from_ne_true _ (λ is. let le : d ≤ 13 = leb-true d 13 is in absurd (omega arith)) in
    let c : nat_eq d 32 ≡ false = ne_eqb d 32 (omega arith) in
    let f : nat_eq d 34 ≡ false = ne_eqb d 34 (omega arith) in
    let g : nat_eq d 123 ≡ false = ne_eqb d 123 (omega arith) in
    let h : nat_eq d 125 ≡ false = ne_eqb d 125 (omega arith) in
    let j : nat_eq d 44 ≡ false = ne_eqb d 44 (omega arith) in
    (rw (a, b, c, f, g, h, j) refl, rw (parts.0, parts.1) refl)

digits_run : (ds : List ℕ) → all_ascii_digits ds ≡ true → Runs ds
unfolding Runs
digits_run [] e = tt
digits_run (d ∷ ds) e = let parts = and_parts (is_ascii_digit d) (all_ascii_digits ds) e in ((digit_runs d parts.0).0, digits_run ds parts.1)

digits_begin : (ds : List ℕ) → all_ascii_digits ds ≡ true → nat_lt 0 (length ds) ≡ true → FirstPasses begins_number ds
digits_begin [] e some = cc
digits_begin (d ∷ ds) e some = (digit_runs d (and_parts (is_ascii_digit d) (all_ascii_digits ds) e).0).1

begin_more : (xs ys : List ℕ) → FirstPasses begins_number xs → FirstPasses begins_number (xs ++ ys)
begin_more [] ys first = absurd first
begin_more (x ∷ xs) ys first = first

-- the bytes of a number
record IsNumber (bs : List ℕ) : Type 0 where
  first : FirstPasses begins_number bs
  runs : Runs bs

decimal_is : (n : ℕ) → n < 2 ^ 64 → IsNumber (decimal n)
decimal_is n limit =
    let parts = and_parts (all_ascii_digits (decimal n)) (nat_lt 0 (length (decimal n))) (decimal-numeral n limit) in
    record { first = digits_begin (decimal n) parts.0 parts.1; runs = digits_run (decimal n) parts.0 }

int_is : (z : ℤ) → unsigned_abs z ≤ most → IsNumber (signed_decimal z)
unfolding Runs
int_is (pos n) small = decimal_is n (omega arith)
int_is (negsuc n) small = record { first = refl; runs = (refl, (decimal_is (suc n) (omega arith)).runs) }

fraction_is : (f : Fraction) → unsigned_abs f.num ≤ most → f.den ≤ most → IsNumber (fraction_text f)
unfolding Runs
fraction_is f num den = chosen (nat_eq f.den 1)
  where
    chosen : (b : Bool) → IsNumber (cond b (signed_decimal f.num) (signed_decimal f.num ++ 47 ∷ decimal f.den))
    chosen true = int_is f.num num
    chosen false =
        let above = int_is f.num num in
        let below = decimal_is f.den (omega arith) in
        record {
          first = begin_more (signed_decimal f.num) (47 ∷ decimal f.den) above.first;
          runs = runs_append (signed_decimal f.num) (47 ∷ decimal f.den) above.runs (refl, below.runs);
        }

-- a token that may stand behind any other
pub record IsFine (p : Piece) : Type 0 where
  pub space : AllPass is_space p.space
  pub token : (after : List ℕ) → FirstFails in_run after → IsToken p.kind p.bytes after
  pub not_end : p.kind ≢ kinds.End
  pub stops : (after : List ℕ) → FirstFails in_run (p.space ++ (p.bytes ++ after))

one_space : (b : ℕ) → is_space b ≡ true → AllPass is_space (b ∷ [])
one_space b is zero d lt = is
one_space b is (suc k) d lt = absurd (omega arith)

fine_number : (bs : List ℕ) → IsNumber bs → IsFine (spaced kinds.Number bs)
fine_number bs is = record {
  space = one_space 32 refl;
  token = λ after stop. record { first = is.first; each = runs_pass bs is.runs; longest = stop };
  not_end = λ e. cc;
  stops = λ after. refl;
}

-- a whole number within the limit may stand behind any token
pub fine_whole : (n : ℕ) → n ≤ most → IsFine (whole_piece n)
fine_whole n small = fine_number (decimal n) (decimal_is n (omega arith))

-- a fraction within the limit may stand behind any token
pub fine_fraction : (f : Fraction) → IsTrue (fits f) → IsFine (fraction f)
fine_fraction f small =
    let parts = and_parts (nat_le (unsigned_abs f.num) most) (nat_le f.den most) small in
    fine_number (fraction_text f) (fraction_is f (leb-true (unsigned_abs f.num) most parts.0) (leb-true f.den most parts.1))

fine_quoted : (bytes space : List ℕ) → EndsPlainly bytes → AllPass is_space space
    → ((after : List ℕ) → FirstFails in_run (space ++ after))
    → IsFine (behind space kinds.Text (quoted bytes))
unfolding quoted
fine_quoted bytes space plain are stop = record {
  space = are;
  token = λ after fails. record { inside = escaped bytes; is_inside = (escaped_is_inside (escaped bytes) bytes plain refl).0; quoted = refl };
  not_end = λ e. cc;
  stops = λ after. stop _;
}

-- a text that doesn't end with a backslash, behind a space, may stand behind any token
pub fine_text : (bytes : List ℕ) → EndsPlainly bytes → IsFine (text_piece bytes)
fine_text bytes plain = fine_quoted bytes (codes " ") plain (one_space 32 refl) (λ after. refl)

-- a text that doesn't end with a backslash, on a new line, may stand behind any token
pub fine_line : (bytes : List ℕ) → EndsPlainly bytes → IsFine (on_new_line kinds.Text (quoted bytes))
fine_line bytes plain = fine_quoted bytes (codes "\n") plain (one_space 10 refl) (λ after. refl)

-- an opening brace may stand behind any token
pub fine_open : IsFine open_piece
fine_open = record { space = one_space 32 refl; token = λ after stop. refl; not_end = λ e. cc; stops = λ after. refl }

-- a closing brace may stand behind any token
pub fine_close : IsFine close_piece
fine_close = record { space = one_space 32 refl; token = λ after stop. refl; not_end = λ e. cc; stops = λ after. refl }

-- a comma may stand behind any token
pub fine_comma : IsFine comma_piece
fine_comma = record { space = λ k d lt. absurd (omega arith); token = λ after stop. refl; not_end = λ e. cc; stops = λ after. refl }

-- a word of one letter, on a new line, may stand behind any token
pub fine_letter : (c : ℕ) → begins_word c ≡ true → in_run c ≡ true → IsFine (on_new_line kinds.Word (c ∷ []))
unfolding Runs
fine_letter c begins run = record {
  space = one_space 10 refl;
  token = λ after stop. record { first = begins; each = runs_pass (c ∷ []) (run, tt); longest = stop };
  not_end = λ e. cc;
  stops = λ after. refl;
}

abbrev pub EachFine : List Piece → Type 0
EachFine [] = Unit {0}
EachFine (p ∷ ps) = IsFine p × EachFine ps

-- if each token of two lists may stand behind any other, so may each of the one list behind the other
pub fine_append : (ps qs : List Piece) → EachFine ps → EachFine qs → EachFine (ps ++ qs)
fine_append [] qs first second = second
fine_append (p ∷ ps) qs first second = (first.0, fine_append ps qs first.1 second)

behind_stops : (ps : List Piece) → EachFine ps → FirstFails in_run (bytes_of ps (10 ∷ []))
behind_stops [] fine = refl
behind_stops (p ∷ ps) fine = fine.0.stops (bytes_of ps (10 ∷ []))

-- tokens that are all fine, up to the last line feed
pub fine_pieces : (ps : List Piece) → EachFine ps → ArePieces ps (10 ∷ [])
fine_pieces [] fine = one_space 10 refl
fine_pieces (p ∷ ps) fine =
    (fine.0.space, fine.0.token (bytes_of ps (10 ∷ [])) (behind_stops ps fine.1), fine.0.not_end, fine_pieces ps fine.1)

-- a number of one digit or more, behind a space, may stand behind any token
pub fine_digits : (ds : List ℕ) → all_ascii_digits ds ≡ true → nat_lt 0 (length ds) ≡ true
    → IsFine (spaced kinds.Number ds)
fine_digits ds digits some = fine_number ds (record { first = digits_begin ds digits some; runs = digits_run ds digits })

-- a word of one letter, behind a space, may stand behind any token
pub fine_word : (c : ℕ) → begins_word c ≡ true → in_run c ≡ true → IsFine (spaced kinds.Word (c ∷ []))
unfolding Runs
fine_word c begins run = record {
  space = one_space 32 refl;
  token = λ after stop. record { first = begins; each = runs_pass (c ∷ []) (run, tt); longest = stop };
  not_end = λ e. cc;
  stops = λ after. refl;
}

-- the first word of a file, and what stands behind it
pub first_word : (ps : List Piece) → EachFine ps → ArePieces (behind [] kinds.Word (codes "EFG") ∷ ps) (10 ∷ [])
unfolding Runs
first_word ps fine = (
  (λ k d lt. absurd (omega arith)),
  record { first = refl; each = runs_pass (codes "EFG") (refl, (refl, (refl, tt))); longest = behind_stops ps fine },
  (λ e. cc),
  fine_pieces ps fine,
)
