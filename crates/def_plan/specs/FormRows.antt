-- The rows of a form against two lists of numbers, one for each player's sequences: row s is player one's sequence s,
-- and after player one's rows come player two's. A row's amount is the leaf sum of its sequence against the other
-- player's numbers, in player one's payoff.
use Rattle.std.specs.Prelude.{ℕ, ◌+◌, ◌-◌, ℤ, pos, ◌*ℤ◌, List, ◌++◌, map, ◌==◌, nat_lt, if◌then◌else◌, slice_index}
use Rattle.std.specs.Prelude.{slice_index_or}
use Rattle.def_tree.specs.declared.Player.{Player}
use Rattle.def_tree.specs.declared.Player.TheVariants.{One, Two}
use Rattle.def_tree.specs.Opponent.{opponent}
use Rattle.def_plan.specs.Form.{SequenceForm, Leaf, sequence_count, sequences, leaf_sequence, player_sets}
use Rattle.def_plan.specs.Payoff.{leaf_sum}

abbrev pub row_count : SequenceForm → ℕ
row_count form = sequence_count form.sets_one + sequence_count form.sets_two

-- the amounts at the rows of one player
abbrev pub player_rows : SequenceForm → Player → List ℕ → List ℤ
player_rows form player against = map (leaf_sum player form.leaves against) (sequences (player_sets form player))

-- the amounts at all rows
abbrev pub rows : SequenceForm → List ℕ → List ℕ → List ℤ
rows form numbers_one numbers_two = player_rows form One numbers_two ++ player_rows form Two numbers_one

-- the amount at each row
abbrev pub amount_of : List ℤ → ℕ → ℤ
amount_of amounts row = slice_index_or amounts row (pos 0)

-- what a leaf adds to a sequence of a player:
-- the weight times the other player's number, where the leaf has this sequence
abbrev pub amount_at : Player → List ℕ → Leaf → ℕ → ℤ
amount_at player against z s =
    if leaf_sequence player z == s then z.weight *ℤ pos (slice_index against (leaf_sequence (opponent player) z))
    else pos 0

-- what a leaf adds to a row
abbrev pub amount_in_row : SequenceForm → List ℕ → List ℕ → Leaf → ℕ → ℤ
amount_in_row form numbers_one numbers_two z row =
    if nat_lt row (sequence_count form.sets_one) then amount_at One numbers_two z row else amount_at Two numbers_one z
    (row - sequence_count form.sets_one)
