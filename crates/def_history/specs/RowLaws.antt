-- What the rows and the jobs' amounts are, and how large.
use Rattle.std.specs.Prelude.{◌≡◌, ℕ, ◌+◌, ◌*◌, ◌≤◌, ◌<◌, unsigned_abs, List, length, slice_index}
use Rattle.def_sums.specs.Sum.{nat_sum_over}
use Rattle.def_tree.specs.declared.Player.TheVariants.{One, Two}
use Rattle.def_plan.specs.Form.{SequenceForm, sequence_count}
use Rattle.def_plan.specs.Payoff.{leaf_sum, mass_of}
use Rattle.def_history.specs.History.{job_numbers, replay, stripe_of}
use Rattle.def_history.specs.Core.{State, IsReached, history_of, stripe_count}
use Rattle.def_history.specs.Ranges.{LeafRange, Partitions}
use Rattle.def_history.specs.Leaves.{job_amount, amounts, sum_over_leaves}
use Rattle.def_history.specs.Laws.{IsAtEnd}
use Rattle.def_history.specs.JobRows.{leaf_amount, job_leaves}

-- the plain sums over all leaves are the leaf sums of both players
pub record SumToLeafSums (form : SequenceForm) (numbers_one numbers_two : List ℕ) : Type 0 where
  pub rows_of_one : (s : ℕ) → s < sequence_count form.sets_one
      → sum_over_leaves (leaf_amount form numbers_one numbers_two) (length form.leaves) s
      ≡ leaf_sum One form.leaves numbers_two s
  pub rows_of_two : (s : ℕ)
      → sum_over_leaves (leaf_amount form numbers_one numbers_two) (length form.leaves)
      (sequence_count form.sets_one + s) ≡ leaf_sum Two form.leaves numbers_one s

abbrev pub RowsSumOverLeaves : Type 0
RowsSumOverLeaves = (form : SequenceForm) (numbers_one numbers_two : List ℕ)
    → SumToLeafSums form numbers_one numbers_two

-- a job's amounts are the leaf sums of its leaves alone
pub record IsPartOfLeafSums (form : SequenceForm) (numbers_one numbers_two : List ℕ) (range : LeafRange) : Type 0 where
  pub rows_of_one : (s : ℕ) → s < sequence_count form.sets_one
      → job_amount (leaf_amount form numbers_one numbers_two) range s
      ≡ leaf_sum One (job_leaves form range) numbers_two s
  pub rows_of_two : (s : ℕ)
      → job_amount (leaf_amount form numbers_one numbers_two) range (sequence_count form.sets_one + s)
      ≡ leaf_sum Two (job_leaves form range) numbers_one s

abbrev pub JobsHaveTheirLeafSums : Type 0
JobsHaveTheirLeafSums = (form : SequenceForm) (numbers_one numbers_two : List ℕ) (range : LeafRange)
    → range.first + range.count ≤ length form.leaves
    → IsPartOfLeafSums form numbers_one numbers_two range

-- with the bag empty and no right held, each row's replay is the leaf sum of the row's sequence
pub record ReplaysToLeafSums (form : SequenceForm) (numbers_one numbers_two : List ℕ) (ranges : List LeafRange)
    (state : State) : Type 0 where
  pub rows_of_one : (s : ℕ) → s < sequence_count form.sets_one
      → replay (amounts (leaf_amount form numbers_one numbers_two) ranges)
      (history_of state (stripe_of (stripe_count state) s)) s ≡ leaf_sum One form.leaves numbers_two s
  pub rows_of_two : (s : ℕ) → let row : ℕ = sequence_count form.sets_one + s in
      replay (amounts (leaf_amount form numbers_one numbers_two) ranges)
      (history_of state (stripe_of (stripe_count state) row)) row ≡ leaf_sum Two form.leaves numbers_one s

abbrev pub ReplaysEndAsRows : Type 0
ReplaysEndAsRows = (form : SequenceForm) (numbers_one numbers_two : List ℕ) (ranges : List LeafRange)
    → Partitions ranges (length form.leaves)
    → (state : State) → IsReached (length ranges) state → IsAtEnd state → 0 < stripe_count state
    → ReplaysToLeafSums form numbers_one numbers_two ranges state

-- at each row the sizes of all jobs' amounts add up to at most the mass times the greatest number of the plans, so each
-- sum of some of them is no larger
abbrev pub AmountsAreSmall : Type 0
AmountsAreSmall = (form : SequenceForm) (numbers_one numbers_two : List ℕ) (bound : ℕ) (ranges : List LeafRange)
    → Partitions ranges (length form.leaves)
    → ((s : ℕ) → slice_index numbers_one s ≤ bound) → ((s : ℕ) → slice_index numbers_two s ≤ bound)
    → (row : ℕ)
    → nat_sum_over (λ job. unsigned_abs (amounts (leaf_amount form numbers_one numbers_two) ranges job row))
    (job_numbers (length ranges)) ≤ mass_of form.leaves * bound
