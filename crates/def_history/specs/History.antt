-- A history of additions: which jobs were added into a stripe, and in which order.
use Rattle.std.specs.Prelude.{ℕ, ℤ, ◌<◌, ◌≤◌, ◌/◌, ◌%◌, ◌==◌, List, All, Contains, count_by}
use Rattle.std.specs.List.{range_with_len}
use Rattle.def_sums.specs.Sum.{sum_over}

-- the numbers of the jobs, from 0 on
abbrev pub job_numbers : ℕ → List ℕ
job_numbers jobs = range_with_len 0 jobs

-- how often a job is in a list of jobs
abbrev pub times : ℕ → List ℕ → ℕ
times job jobs = count_by (λ other. other == job) jobs

-- each job at most once, and each the number of a job
pub record IsLegal (jobs : ℕ) (history : List ℕ) : Type 0 where
  pub once : (job : ℕ) → times job history ≤ 1
  pub named : All (λ job. job < jobs) history

-- every job is in it
abbrev pub IsComplete : ℕ → List ℕ → Type 0
IsComplete jobs history = (job : ℕ) → job < jobs → Contains history job

-- what the additions of a history leave at a row: the sum of these jobs' amounts there
abbrev pub replay : (ℕ → ℕ → ℤ) → List ℕ → ℕ → ℤ
replay amount history row = sum_over (λ job. amount job row) history

-- the plain sum at a row over all jobs
abbrev pub sum_over_jobs : (ℕ → ℕ → ℤ) → ℕ → ℕ → ℤ
sum_over_jobs amount jobs row = sum_over (λ job. amount job row) (job_numbers jobs)

-- the stripe that has a row, and the row's place in it
abbrev pub stripe_of : ℕ → ℕ → ℕ
stripe_of stripes row = row % stripes

abbrev pub place_of : ℕ → ℕ → ℕ
place_of stripes row = row / stripes
