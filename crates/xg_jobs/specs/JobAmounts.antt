-- The amounts that a form's jobs add, and rounds whose jobs, rows and amounts have a name.
use Rattle.std.specs.Prelude.{◌≡◌, ℕ, nat_le, if◌then◌else◌, Bool, ℤ, pos, List, length, unsigned_abs}
use Rattle.std.specs.List.{list_all, range_with_len}
use Rattle.def_sums.specs.Limits.{most_row}
use Rattle.def_sums.specs.Sum.{nat_sum_over}
use Rattle.def_plan.specs.Form.{SequenceForm}
use Rattle.def_plan.specs.FormRows.{row_count}
use Rattle.def_history.specs.Ranges.{LeafRange}
use Rattle.def_history.specs.History.{job_numbers}
use Rattle.def_history.specs.Leaves.{amounts}
use Rattle.def_history.specs.JobRows.{leaf_amount}
use Rattle.xg_jobs.specs.declared.input.RowInput.{RowInput}
use Rattle.xg_jobs.specs.Rows.{AreNumbersOf}
use Rattle.xg_jobs.specs.Table.{IsTableOf, TableOfJobs}

-- each job's amount at each row, against these numbers of both players
abbrev pub job_amounts : SequenceForm → List ℕ → List ℕ → List LeafRange → ℕ → ℕ → ℤ
job_amounts form numbers_one numbers_two ranges = amounts (leaf_amount form numbers_one numbers_two) ranges

-- at each row the sizes of all jobs' amounts add up to no more than a name takes
abbrev pub are_small : ℕ → ℕ → (ℕ → ℕ → ℤ) → Bool
are_small jobs rows amount =
    list_all (λ row. nat_le (nat_sum_over (λ job. unsigned_abs (amount job row)) (job_numbers jobs)) most_row)
    (range_with_len 0 rows)

-- the amounts where they are, else none: a name takes them of any table
abbrev pub tested : ℕ → ℕ → (ℕ → ℕ → ℤ) → ℕ → ℕ → ℤ
tested jobs rows amount = if are_small jobs rows amount then amount else λ _ _. pos 0

-- the input has a number for each sequence and the table is the form's, and the jobs, the rows and what each job adds
-- to each row are those of a name
pub record IsRoundOf (jobs rows : ℕ) (amount : ℕ → ℕ → ℤ) (input : RowInput) (table : TableOfJobs) : Type 0 where
  pub numbers_are : AreNumbersOf input.form.now input.one.now input.two.now
  pub table_is : IsTableOf input.form.now table
  pub jobs_are : length table.ranges ≡ jobs
  pub rows_are : row_count input.form.now ≡ rows
  pub amount_is : job_amounts input.form.now input.one.now input.two.now table.ranges ≡ amount
