-- The rows of a form by its jobs.
use Rattle.std.proofs.Common.{◌≡◌, ℕ, ◌+◌, ◌≤◌, ◌<◌, List, length, get_or, arith, ap, sym, ◌∙◌, zero-add}
use Rattle.std.specs.Prelude.{pos}
use Rattle.std.specs.List.{range_with_len}
use Rattle.std.proofs.lemmas.List.{get_or-drop, get_or-take, length-take, length-drop}
use Rattle.def_sums.specs.Sum.{sum_over}
use Rattle.def_plan.specs.Form.{SequenceForm, sequence_count}
use Rattle.def_history.specs.Ranges.{LeafRange}
use Rattle.def_history.specs.Leaves.{job_amount, sum_over_leaves}
use Rattle.def_history.proofs.Leaves.{sum_over-places, ends_with_leaf_sums}
use Rattle.def_plan.specs.FormRows.{amount_in_row}
use Rattle.def_plan.proofs.Rows.{in_row_of_one, in_row_of_two}
use Rattle.def_history.specs.JobRows.{form_leaf, leaf_amount, job_leaves}
use Rattle.def_history.specs.RowLaws.{RowsSumOverLeaves, JobsHaveTheirLeafSums, ReplaysEndAsRows}

-- the leaves by their numbers
pub by_number : (form : SequenceForm) (numbers_one numbers_two : List ℕ) (range : LeafRange) (row : ℕ)
    → range.first + range.count ≤ length form.leaves
    → job_amount (leaf_amount form numbers_one numbers_two) range row
    ≡ sum_over (λ z. amount_in_row form numbers_one numbers_two z row) (job_leaves form range)
by_number form numbers_one numbers_two range row within =
    let long : length (job_leaves form range) ≡ range.count = simp (length-take, length-drop) (omega arith) in
    ap (λ n. sum_over (λ leaf. leaf_amount form numbers_one numbers_two leaf row) (range_with_len range.first n)) (sym long)
    ∙ sum_over-places (λ z. amount_in_row form numbers_one numbers_two z row) (record { sequence_one = 0; sequence_two = 0; weight = pos 0 })
    (job_leaves form range) (λ leaf. leaf_amount form numbers_one numbers_two leaf row) range.first
    (λ place below. ap (λ z. amount_in_row form numbers_one numbers_two z row) (sym (at_place place (omega (arith, long, below)))))
  where
    at_place : (place : ℕ) → place < range.count
        → get_or (job_leaves form range) place (record { sequence_one = 0; sequence_two = 0; weight = pos 0 }) ≡ form_leaf form (range.first + place)
    at_place place below = rw (get_or-take, get_or-drop)

all_by_number : (form : SequenceForm) (numbers_one numbers_two : List ℕ) (row : ℕ)
    → sum_over_leaves (leaf_amount form numbers_one numbers_two) (length form.leaves) row
    ≡ sum_over (λ z. amount_in_row form numbers_one numbers_two z row) form.leaves
all_by_number form numbers_one numbers_two row =
    sum_over-places (λ z. amount_in_row form numbers_one numbers_two z row) (record { sequence_one = 0; sequence_two = 0; weight = pos 0 }) form.leaves
    (λ leaf. leaf_amount form numbers_one numbers_two leaf row) 0
    (λ place below. ap (λ leaf. leaf_amount form numbers_one numbers_two leaf row) (zero-add place))

-- what all leaves add to a row is the leaf sum of the row's sequence
pub rows_sum_over_leaves : RowsSumOverLeaves
rows_sum_over_leaves form numbers_one numbers_two = record {
  rows_of_one = λ s below. all_by_number form numbers_one numbers_two s ∙ in_row_of_one form numbers_one numbers_two form.leaves s below;
  rows_of_two = λ s. all_by_number form numbers_one numbers_two (sequence_count form.sets_one + s) ∙ in_row_of_two form numbers_one numbers_two form.leaves s;
}

-- what a job adds to a row is the leaf sum over the job's leaves alone
pub jobs_have_their_leaf_sums : JobsHaveTheirLeafSums
jobs_have_their_leaf_sums form numbers_one numbers_two range within = record {
  rows_of_one = λ s below. by_number form numbers_one numbers_two range s within ∙ in_row_of_one form numbers_one numbers_two (job_leaves form range) s below;
  rows_of_two = λ s. by_number form numbers_one numbers_two range (sequence_count form.sets_one + s) within
      ∙ in_row_of_two form numbers_one numbers_two (job_leaves form range) s;
}

-- at the end the history of a row's stripe leaves the leaf sum of the row's sequence
pub replays_end_as_rows : ReplaysEndAsRows
replays_end_as_rows form numbers_one numbers_two ranges partitions state reached end some = record {
  rows_of_one = λ s below. ends_with_leaf_sums (leaf_amount form numbers_one numbers_two) ranges (length form.leaves) partitions state reached end some s
      ∙ (rows_sum_over_leaves form numbers_one numbers_two).rows_of_one s below;
  rows_of_two = λ s. ends_with_leaf_sums (leaf_amount form numbers_one numbers_two) ranges (length form.leaves) partitions state reached end some
      (sequence_count form.sets_one + s) ∙ (rows_sum_over_leaves form numbers_one numbers_two).rows_of_two s;
}
