-- Rows that get their amounts one after the other.
use Rattle.std.proofs.Common.{◌≡◌, ℕ, zero, suc, ◌+◌, ◌<◌, ◌≤◌, List, [], ◌∷◌, length, get_or, refl, ap, ◌∙◌, arith}
use Rattle.std.specs.Prelude.{ℤ, pos}
use Rattle.xg_rowcore.specs.Packets.{Listed, entries_at_rows, with_amount, zeros_at}
use Rattle.xg_touched.specs.Filling.{entries_upto}

-- none has its amount at first
pub upto_none : (f : ℕ → ℤ) (rows : List ℕ) → entries_upto f 0 rows ≡ zeros_at rows
upto_none f [] = refl
upto_none f (row ∷ rows) = ap (λ rest. record { row = row; amount = pos 0 } ∷ rest) (upto_none f rows)

-- all have it at the end
pub upto_all : (f : ℕ → ℤ) (count : ℕ) (rows : List ℕ) → length rows ≤ count
    → entries_upto f count rows ≡ entries_at_rows f rows
upto_all f count [] all = refl
upto_all f zero (row ∷ rows) all = absurd (omega arith)
upto_all f (suc count) (row ∷ rows) all = ap (λ rest. record { row = row; amount = f row } ∷ rest) (upto_all f count rows (omega arith))

pub length-upto : (f : ℕ → ℤ) (count : ℕ) (rows : List ℕ) → length (entries_upto f count rows) ≡ length rows
length-upto f count [] = refl
length-upto f zero (row ∷ rows) = let rest = length-upto f zero rows in omega arith
length-upto f (suc count) (row ∷ rows) = let rest = length-upto f count rows in omega arith

next_upto : (f : ℕ → ℤ) (i : ℕ) (amount : ℤ) (rows : List ℕ) → i < length rows → amount ≡ f (get_or rows i 0)
    → with_amount (entries_upto f i rows) i amount ≡ entries_upto f (suc i) rows
next_upto f i amount [] below is = absurd (omega arith)
next_upto f zero amount (row ∷ rows) below is = ap (λ a. record { row = row; amount = a } ∷ entries_upto f 0 rows) is
next_upto f (suc i) amount (row ∷ rows) below is =
    ap (λ rest. record { row = row; amount = f row } ∷ rest) (next_upto f i amount rows (omega arith) is)

-- one more has it
pub upto_more : (f : ℕ → ℤ) (i : ℕ) (amount : ℤ) (rows : List ℕ) (was new : Listed) → i < length rows
    → amount ≡ f (get_or rows i 0) → was.list ≡ entries_upto f i rows
    → new ≡ record { list = with_amount was.list i amount; room = was.room; chained = was.chained }
    → new.list ≡ entries_upto f (i + 1) rows
upto_more f i amount rows was new below is before put =
    ap (λ (l : Listed). l.list) put ∙ ap (λ es. with_amount es i amount) before ∙ next_upto f i amount rows below is
    ∙ ap (λ k. entries_upto f k rows) (omega arith)
