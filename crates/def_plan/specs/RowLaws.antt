-- What the rows of a form are.
use Rattle.std.specs.Prelude.{◌≡◌, ℕ, ◌+◌, ◌<◌, pos, List, length, slice_index_or}
use Rattle.def_sums.specs.Sum.{sum_over}
use Rattle.def_tree.specs.declared.Player.{Player}
use Rattle.def_tree.specs.declared.Player.TheVariants.{One, Two}
use Rattle.def_plan.specs.Form.{SequenceForm, Leaf, sequence_count, player_sets}
use Rattle.def_plan.specs.Payoff.{leaf_sum}
use Rattle.def_plan.specs.FormRows.{row_count, player_rows, rows, amount_at, amount_in_row}

-- each row is the leaf sum of its sequence: row s that of player one's sequence s, and so many rows later that of
-- player two's sequence s
pub record AreLeafSums (form : SequenceForm) (numbers_one numbers_two : List ℕ) : Type 0 where
  pub count : length (rows form numbers_one numbers_two) ≡ row_count form
  pub rows_of_one : (s : ℕ) → s < sequence_count form.sets_one
      → slice_index_or (rows form numbers_one numbers_two) s (pos 0) ≡ leaf_sum One form.leaves numbers_two s
  pub rows_of_two : (s : ℕ) → s < sequence_count form.sets_two
      → slice_index_or (rows form numbers_one numbers_two) (sequence_count form.sets_one + s) (pos 0)
      ≡ leaf_sum Two form.leaves numbers_one s

abbrev pub RowsAreLeafSums : Type 0
RowsAreLeafSums = (form : SequenceForm) (numbers_one numbers_two : List ℕ) → AreLeafSums form numbers_one numbers_two

-- the same of one player's rows alone
pub record ArePlayerLeafSums (form : SequenceForm) (player : Player) (against : List ℕ) : Type 0 where
  pub count : length (player_rows form player against) ≡ sequence_count (player_sets form player)
  pub each_row : (s : ℕ) → s < sequence_count (player_sets form player)
      → slice_index_or (player_rows form player against) s (pos 0) ≡ leaf_sum player form.leaves against s

abbrev pub PlayerRowsAreLeafSums : Type 0
PlayerRowsAreLeafSums = (form : SequenceForm) (player : Player) (against : List ℕ)
    → ArePlayerLeafSums form player against

-- a leaf sum is the sum over all leaves, each of which adds its amount
abbrev pub LeafSumsAddAmounts : Type 0
LeafSumsAddAmounts = (player : Player) (leaves : List Leaf) (against : List ℕ) (s : ℕ)
    → sum_over (λ z. amount_at player against z s) leaves ≡ leaf_sum player leaves against s

-- and so is each row
abbrev pub RowsAddAmounts : Type 0
RowsAddAmounts = (form : SequenceForm) (numbers_one numbers_two : List ℕ) (row : ℕ) → row < row_count form
    → sum_over (λ z. amount_in_row form numbers_one numbers_two z row) form.leaves
    ≡ slice_index_or (rows form numbers_one numbers_two) row (pos 0)
