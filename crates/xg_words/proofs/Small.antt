-- Where an input fits, all jobs' amounts at a row are small together.
use Rattle.std.proofs.Common.{ℕ, List, length, max, arith}
use Rattle.def_plan.specs.Form.{SequenceForm}
use Rattle.def_plan.specs.FormRows.{row_count}
use Rattle.def_history.proofs.Amounts.{amounts_small}
use Rattle.xg_jobs.specs.Groups.{greatest_of}
use Rattle.xg_jobs.specs.Table.{IsTableOf, TableOfJobs}
use Rattle.xg_jobs.proofs.Greatest.{at_most_greatest}
use Rattle.xg_jobs.specs.JobAmounts.{job_amounts}
use Rattle.xg_jobs.proofs.RoundSums.{ranges_partition}
use Rattle.def_words.specs.Amounts.{HaveRoom}
use Rattle.xg_words.specs.Running.{HasSmallSums}

pub small_amounts : (form : SequenceForm) (numbers_one numbers_two : List ℕ) (table : TableOfJobs) → IsTableOf form table
    → HasSmallSums form numbers_one numbers_two
    → HaveRoom (length table.ranges) (row_count form) (job_amounts form numbers_one numbers_two table.ranges)
small_amounts form numbers_one numbers_two table is fits row below =
    let bound : ℕ = max (greatest_of numbers_one) (greatest_of numbers_two) in
    let under_one = λ (s : ℕ). at_most_greatest numbers_one s in
    let under_two = λ (s : ℕ). at_most_greatest numbers_two s in
    let sizes =
    amounts_small form numbers_one numbers_two bound table.ranges (ranges_partition form table is) (λ s. let u = under_one s in omega (arith, u))
    (λ s. let u = under_two s in omega (arith, u)) row in
    omega (arith, sizes, fits)
