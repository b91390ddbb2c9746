-- Packets as they are filled.
use Rattle.std.specs.Prelude.{ℕ, zero, suc, ℤ, pos, List, [], ◌∷◌, take, drop}
use Rattle.def_sums.specs.Sum.{sum_over}
use Rattle.def_plan.specs.Form.{SequenceForm}
use Rattle.def_history.specs.Packets.{RowAmount}
use Rattle.def_plan.specs.FormRows.{amount_in_row}

-- these rows, of which the first so many have their amounts and the others 0 as yet
abbrev pub entries_upto : (ℕ → ℤ) → ℕ → List ℕ → List RowAmount
entries_upto amount count [] = []
entries_upto amount zero (row ∷ rows) = record { row = row; amount = pos 0 } ∷ entries_upto amount zero rows
entries_upto amount (suc count) (row ∷ rows) =
    record { row = row; amount = amount row } ∷ entries_upto amount count rows

-- what so many leaves behind the first ones bring to a row
abbrev pub amount_upto : SequenceForm → List ℕ → List ℕ → ℕ → ℕ → ℕ → ℤ
amount_upto form numbers_one numbers_two first count row =
    sum_over (λ z. amount_in_row form numbers_one numbers_two z row) (take count (drop first form.leaves))
