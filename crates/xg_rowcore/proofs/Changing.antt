-- Entries of which one amount changes.
use Rattle.std.proofs.Common.{◌≡◌, ℕ, zero, suc, ◌<◌, List, [], ◌∷◌, length, set, refl, ap, arith}
use Rattle.std.specs.Prelude.{ℤ, pos}
use Rattle.std.proofs.lemmas.List.Elements.{All-set}
use Rattle.def_history.specs.Packets.{RowAmount, AreRising}
use Rattle.xg_rowcore.specs.Packets.{entries_of_rows, entry_in}

-- another amount at a place is another entry there, of the same row
pub entries_from-set : (rows : List ℕ) (amounts : List ℤ) (i : ℕ) (amount : ℤ) → length rows ≡ length amounts
    → entries_of_rows rows (set amounts i amount)
    ≡ set (entries_of_rows rows amounts) i (record { row = (entry_in (entries_of_rows rows amounts) i).row; amount = amount })
entries_from-set [] amounts i amount same = refl
entries_from-set (row ∷ rows) [] i amount same = refl
entries_from-set (row ∷ rows) (was ∷ amounts) zero amount same = refl
entries_from-set (row ∷ rows) (was ∷ amounts) (suc i) amount same =
    ap (λ rest. record { row = row; amount = was } ∷ rest) (entries_from-set rows amounts i amount (omega arith))

-- entries still rise where one amount changes
pub rising_set : (entries : List RowAmount) (i : ℕ) (amount : ℤ) → i < length entries → AreRising entries
    → AreRising (set entries i (record { row = (entry_in entries i).row; amount = amount }))
rising_set [] i amount below rising = rising
rising_set (entry ∷ entries) zero amount below rising = rising
rising_set (entry ∷ entries) (suc i) amount below (first, rising) =
    let inside : i < length entries = omega arith in
    let after : RowAmount → Type 0 = λ later. entry.row < later.row in
    let put : RowAmount = record { row = (entry_in entries i).row; amount = amount } in
    (All-set after entries i put (first i (record { row = 0; amount = pos 0 }) inside) first, rising_set entries i amount inside rising)
