-- The packets of a form's jobs: a job's amounts at the rows that its leaves have, and at no others.
use Rattle.std.specs.Prelude.{◌≡◌, ℕ, ◌+◌, ◌-◌, ◌<◌, ◌≤◌, ◌↔◌, Bool, true, false, ◌||◌, ◌==◌, nat_lt, if◌then◌else◌}
use Rattle.std.specs.Prelude.{List, [], ◌∷◌, length, map, filter, slice_index_or, Contains}
use Rattle.std.specs.List.{range_with_len}
use Rattle.def_tree.specs.declared.Player.TheVariants.{One, Two}
use Rattle.def_plan.specs.Form.{SequenceForm, Leaf, sequence_count, leaf_sequence}
use Rattle.def_history.specs.Ranges.{LeafRange}
use Rattle.def_history.specs.Leaves.{job_amount, amounts}
use Rattle.def_history.specs.Packets.{RowAmount, IsPacketOf}
use Rattle.def_plan.specs.FormRows.{row_count}
use Rattle.def_history.specs.JobRows.{leaf_amount, job_leaves}

-- the leaf has the sequence of the row
abbrev pub has_row : SequenceForm → Leaf → ℕ → Bool
has_row form z row =
    if nat_lt row (sequence_count form.sets_one) then leaf_sequence One z == row else leaf_sequence Two z == row
    - sequence_count form.sets_one

-- some leaf has it
abbrev pub is_touched : SequenceForm → List Leaf → ℕ → Bool
is_touched form [] row = false
is_touched form (z ∷ leaves) row = has_row form z row || is_touched form leaves row

-- the rows that some leaf has, in rising order
abbrev pub touched_rows : SequenceForm → List Leaf → List ℕ
touched_rows form leaves = filter (is_touched form leaves) (range_with_len 0 (row_count form))

abbrev pub packet_of : SequenceForm → List ℕ → List ℕ → LeafRange → List RowAmount
packet_of form numbers_one numbers_two range =
    map (λ row. record { row = row; amount = job_amount (leaf_amount form numbers_one numbers_two) range row })
    (touched_rows form (job_leaves form range))

-- a row is touched exactly where some leaf has it
abbrev pub TouchedRowsAreExact : Type 0
TouchedRowsAreExact = (form : SequenceForm) (leaves : List Leaf) (row : ℕ)
    → Contains (touched_rows form leaves) row ↔ ((row < row_count form)
    × ((z : Leaf) × Contains leaves z × (has_row form z row ≡ true)))

-- these entries are the job's packet
abbrev pub TouchedRowsMakePackets : Type 0
TouchedRowsMakePackets = (form : SequenceForm) (numbers_one numbers_two : List ℕ) (ranges : List LeafRange) (job : ℕ)
    → let range : LeafRange = slice_index_or ranges job (record { first = 0; count = 0 }) in
    range.first + range.count ≤ length form.leaves
    → IsPacketOf (amounts (leaf_amount form numbers_one numbers_two) ranges) (row_count form) job
    (packet_of form numbers_one numbers_two range)
