-- Amounts that a name takes: where they are small they are themselves.
use Rattle.std.proofs.Common.{◌≡◌, ℕ, ◌<◌, ◌≤◌, Bool, true, false, List, length, if◌then◌else◌, refl, sym, ap, arith, ℤ, pos}
use Rattle.std.specs.Prelude.{nat_le, unsigned_abs}
use Rattle.std.specs.List.{range_with_len}
use Rattle.std.proofs.lemmas.Bool.{leb-true, le-leb}
use Rattle.std.proofs.lemmas.List.Sums.{AllPass-from_list_all, list_all-from_AllPass}
use Rattle.std.proofs.Math.Nat.{mul-le-mul_right}
use Rattle.def_sums.specs.Limits.{most_mass, most_root, most_row}
use Rattle.def_sums.specs.Sum.{nat_sum_over}
use Rattle.def_sums.proofs.Ranges.{All-range, range-All}
use Rattle.def_sums.proofs.SumLaws.{nat_sum_over-bounded}
use Rattle.def_plan.specs.Form.{SequenceForm}
use Rattle.def_plan.specs.Payoff.{mass_of}
use Rattle.def_plan.proofs.SizeLaws.{slice_index-at_most}
use Rattle.def_plan.specs.FormRows.{row_count}
use Rattle.def_history.specs.History.{job_numbers}
use Rattle.def_history.proofs.Amounts.{amounts_small}
use Rattle.xg_jobs.specs.Rows.{AreNumbersOf}
use Rattle.xg_jobs.specs.Table.{IsTableOf, TableOfJobs}
use Rattle.xg_jobs.specs.declared.input.RowInput.{RowInput}
use Rattle.xg_jobs.specs.JobAmounts.{IsRoundOf, are_small, job_amounts, tested}
use Rattle.xg_jobs.proofs.RoundSums.{ranges_partition}

-- at each row the sizes of all jobs' amounts are small together
abbrev pub IsSmallAt : ℕ → (ℕ → ℕ → ℤ) → ℕ → Type 0
IsSmallAt jobs amount row = nat_sum_over (λ job. unsigned_abs (amount job row)) (job_numbers jobs) ≤ most_row

abbrev is_small_at : ℕ → (ℕ → ℕ → ℤ) → ℕ → Bool
is_small_at jobs amount row = nat_le (nat_sum_over (λ job. unsigned_abs (amount job row)) (job_numbers jobs)) most_row

-- what a name asks is true of tested amounts
pub tested_small : (jobs rows : ℕ) (amount : ℕ → ℕ → ℤ) (row : ℕ) → row < rows → IsSmallAt jobs (tested jobs rows amount) row
tested_small jobs rows amount row below = by_case (are_small jobs rows amount) refl
  where
    by_case : (b : Bool) → are_small jobs rows amount ≡ b
        → IsSmallAt jobs (if b then amount else λ (j r : ℕ). pos 0) row
    by_case true e =
        let all = AllPass-from_list_all (is_small_at jobs amount) (range_with_len 0 rows) e in
        leb-true _ _ (range-All (λ row. is_small_at jobs amount row ≡ true) 0 rows all row (omega arith) (omega arith))
    by_case false e = omega (arith, nat_sum_over-bounded (λ (job : ℕ). 0) 0 (job_numbers jobs) (λ k d low. omega arith))

-- small amounts stay as they are
tested_is : (jobs rows : ℕ) (amount : ℕ → ℕ → ℤ) → ((row : ℕ) → row < rows → IsSmallAt jobs amount row)
    → amount ≡ tested jobs rows amount
tested_is jobs rows amount small = sym (ap (λ (b : Bool). if b then amount else λ (j r : ℕ). pos 0) yes)
  where
    yes : are_small jobs rows amount ≡ true
    yes = list_all-from_AllPass (is_small_at jobs amount) (range_with_len 0 rows)
        (All-range (λ row. is_small_at jobs amount row ≡ true) 0 rows (λ row low high. le-leb _ _ (small row (omega arith))))

-- so are the amounts of a form's jobs
pub amounts_stay : (form : SequenceForm) (numbers_one numbers_two : List ℕ) (table : TableOfJobs)
    → AreNumbersOf form numbers_one numbers_two → IsTableOf form table
    → mass_of form.leaves ≤ most_mass
    → job_amounts form numbers_one numbers_two table.ranges
    ≡ tested (length table.ranges) (row_count form) (job_amounts form numbers_one numbers_two table.ranges)
amounts_stay form numbers_one numbers_two table numbers is mass =
    tested_is (length table.ranges) (row_count form) (job_amounts form numbers_one numbers_two table.ranges) (λ row below.
    let small_one = slice_index-at_most most_root numbers_one numbers.small_one in
    let small_two = slice_index-at_most most_root numbers_two numbers.small_two in
    let parts = ranges_partition form table is in
    let sizes = amounts_small form numbers_one numbers_two most_root table.ranges parts small_one small_two row in
    let scaled = mul-le-mul_right most_root mass in
    omega (arith, sizes, scaled))

-- a name that takes the amounts of a table has its round
pub round_of : (input : RowInput) (table : TableOfJobs) → AreNumbersOf input.form.now input.one.now input.two.now
    → IsTableOf input.form.now table → mass_of input.form.now.leaves ≤ most_mass
    → let amount = job_amounts input.form.now input.one.now input.two.now table.ranges in
    IsRoundOf (length table.ranges) (row_count input.form.now) (tested (length table.ranges) (row_count input.form.now) amount) input table
round_of input table numbers is mass = record {
  numbers_are = numbers;
  table_is = is;
  jobs_are = refl;
  rows_are = refl;
  amount_is = amounts_stay input.form.now input.one.now input.two.now table numbers is mass;
}
