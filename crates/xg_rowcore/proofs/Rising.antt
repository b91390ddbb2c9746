-- Rows and amounts as entries, and entries that rise.
use Rattle.std.proofs.Common.{◌≡◌, ℕ, zero, suc, ◌<◌, List, [], ◌∷◌, ◌++◌, length, replicate, refl, ap, arith}
use Rattle.std.specs.List.Sorted.{IsStrictlyIncreasing}
use Rattle.std.proofs.lemmas.List.Kept.{AllPairs-from_increasing}
use Rattle.std.specs.Prelude.{ℤ, pos, All, slice_index, slice_index_or}
use Rattle.std.proofs.lemmas.List.Elements.{All-nil, All-cons, All-push}
use Rattle.def_history.specs.Packets.{RowAmount, AreRising}
use Rattle.xg_rowcore.specs.Packets.{entries_of_rows, entry_in, IsAboveLast, zeros_at}

-- as many entries as rows
pub length-entries_from : (rows : List ℕ) (amounts : List ℤ) → length rows ≡ length amounts
    → length (entries_of_rows rows amounts) ≡ length rows
length-entries_from [] amounts same = refl
length-entries_from (row ∷ rows) [] same = absurd (omega arith)
length-entries_from (row ∷ rows) (amount ∷ amounts) same = let rest = length-entries_from rows amounts (omega arith) in omega arith

-- an entry has the row and the amount of its place
pub entry_at-entries_from : (rows : List ℕ) (amounts : List ℤ) (i : ℕ) → length rows ≡ length amounts → i < length rows
    → entry_in (entries_of_rows rows amounts) i
    ≡ record { row = slice_index rows i; amount = slice_index_or amounts i (pos 0) }
entry_at-entries_from [] amounts i same below = absurd (omega arith)
entry_at-entries_from (row ∷ rows) [] i same below = absurd (omega arith)
entry_at-entries_from (row ∷ rows) (amount ∷ amounts) zero same below = refl
entry_at-entries_from (row ∷ rows) (amount ∷ amounts) (suc i) same below = entry_at-entries_from rows amounts i (omega arith) (omega arith)

-- a row and an amount more are an entry more
pub entries_from-push : (rows : List ℕ) (amounts : List ℤ) (row : ℕ) (amount : ℤ) → length rows ≡ length amounts
    → entries_of_rows (rows ++ row ∷ []) (amounts ++ amount ∷ [])
    ≡ entries_of_rows rows amounts ++ record { row = row; amount = amount } ∷ []
entries_from-push [] [] row amount same = refl
entries_from-push [] (b ∷ amounts) row amount same = absurd (omega arith)
entries_from-push (r ∷ rows) [] row amount same = absurd (omega arith)
entries_from-push (r ∷ rows) (b ∷ amounts) row amount same =
    ap (λ rest. record { row = r; amount = b } ∷ rest) (entries_from-push rows amounts row amount (omega arith))

-- what is above the last of rising entries is above the first
above_first : (entry : RowAmount) (entries : List RowAmount) (row : ℕ) → AreRising (entry ∷ entries)
    → IsAboveLast (entry ∷ entries) row → entry.row < row
above_first entry [] row rising above = above entry refl
above_first entry (next ∷ entries) row (first, rising) above =
    let later = above_first next entries row rising above in
    let step : entry.row < next.row = first 0 next (omega arith) in
    omega arith

-- rising entries and one above the last of them rise
pub rising_push : (entries : List RowAmount) (entry : RowAmount) → AreRising entries → IsAboveLast entries entry.row
    → AreRising (entries ++ entry ∷ [])
rising_push [] entry rising above = (All-nil (λ (later : RowAmount). entry.row < later.row), tt)
rising_push (first ∷ []) entry (before, rising) above =
    let after : RowAmount → RowAmount → Type 0 = λ entry later. entry.row < later.row in
    (All-cons (after first) entry [] (above first refl) (All-nil (after first)), (All-nil (after entry), tt))
rising_push (first ∷ next ∷ entries) entry (before, rising) above =
    let over = above_first first (next ∷ entries) entry.row (before, rising) above in
    (All-push (λ later. first.row < later.row) (next ∷ entries) entry before over, rising_push (next ∷ entries) entry rising above)

above_zeros : (row : ℕ) (rows : List ℕ) → ((j : ℕ) → j < length rows → row < slice_index rows j)
    → All (λ later. row < later.row) (zeros_at rows)
above_zeros row [] below = All-nil (λ (later : RowAmount). row < later.row)
above_zeros row (next ∷ rows) below =
    All-cons (λ (later : RowAmount). row < later.row) (record { row = next; amount = pos 0 }) (zeros_at rows) (below 0 (omega arith))
    (above_zeros row rows (λ j inside. below (suc j) (omega arith)))

zeros_rise : (rows : List ℕ) → ((i j : ℕ) → i < j → j < length rows → slice_index rows i < slice_index rows j)
    → AreRising (zeros_at rows)
zeros_rise [] up = tt
zeros_rise (row ∷ rows) up =
    let behind = λ (i j : ℕ) (less : i < j) (inside : j < length rows). up (suc i) (suc j) (omega arith) (omega arith) in
    (above_zeros row rows (λ j inside. up 0 (suc j) (omega arith) (omega arith)), zeros_rise rows behind)

-- rising rows with no amounts yet
pub rising_zeros : (rows : List ℕ) → IsStrictlyIncreasing rows → AreRising (zeros_at rows)
rising_zeros rows up = zeros_rise rows (λ i j less inside. AllPairs-from_increasing rows up i j 0 less inside)

-- rows with as many zeros
pub entries_of_zeros : (rows : List ℕ) → entries_of_rows rows (replicate (length rows) (pos 0)) ≡ zeros_at rows
entries_of_zeros [] = refl
entries_of_zeros (row ∷ rows) = ap (λ rest. record { row = row; amount = pos 0 } ∷ rest) (entries_of_zeros rows)
