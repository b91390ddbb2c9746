-- The entries of a packet.
use Rattle.std.specs.Prelude.{ℕ, ◌<◌, ℤ, pos, ◌+ℤ◌, List, [], ◌∷◌, None, map, slice_index_or, slice_set}
use Rattle.std.specs.List.{last_or}
use Rattle.std.specs.Option.{ForSome}
use Rattle.def_history.specs.Packets.{RowAmount}

-- the entries, in their order, how many there is room for, and for how many stripes there are chains through their
-- rows, or 0 where there are none
pub record Listed : Type 0 where
  pub list : List RowAmount
  pub room : ℕ
  pub chained : ℕ

-- each row with the amount at its place
abbrev pub entries_of_rows : List ℕ → List ℤ → List RowAmount
entries_of_rows [] amounts = []
entries_of_rows (row ∷ rows) [] = []
entries_of_rows (row ∷ rows) (amount ∷ amounts) = record { row = row; amount = amount } ∷ entries_of_rows rows amounts

-- past the end there is no amount
abbrev pub entry_in : List RowAmount → ℕ → RowAmount
entry_in entries i = slice_index_or entries i (record { row = 0; amount = pos 0 })

-- the row is above that of the last entry, if there is one
abbrev pub IsAboveLast : List RowAmount → ℕ → Type 0
IsAboveLast entries row = ForSome (last_or None entries) (λ last. last.row < row)

-- the entries with so much more at one place
abbrev pub with_added : List RowAmount → ℕ → ℤ → List RowAmount
with_added entries i more =
    let entry : RowAmount = entry_in entries i in
    slice_set entries i (record { row = entry.row; amount = entry.amount +ℤ more })

-- the entries with another amount at one place
abbrev pub with_amount : List RowAmount → ℕ → ℤ → List RowAmount
with_amount entries i amount = slice_set entries i (record { row = (entry_in entries i).row; amount = amount })

-- these rows with their amounts
abbrev pub entries_at_rows : (ℕ → ℤ) → List ℕ → List RowAmount
entries_at_rows amount rows = map (λ row. record { row = row; amount = amount row }) rows

-- each row with the amount 0
abbrev pub zeros_at : List ℕ → List RowAmount
zeros_at rows = entries_at_rows (λ _. pos 0) rows
