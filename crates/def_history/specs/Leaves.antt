-- What the leaves of jobs add up to. A leaf's amount at a row is a function of the two.
use Rattle.std.specs.Prelude.{ℕ, ℤ, List, slice_index_or}
use Rattle.std.specs.List.{range_with_len}
use Rattle.def_sums.specs.Sum.{sum_over}
use Rattle.def_history.specs.Ranges.{LeafRange, leaves_of}

-- a job's amount at a row is the plain sum over its leaves
abbrev pub job_amount : (ℕ → ℕ → ℤ) → LeafRange → ℕ → ℤ
job_amount leaf_amount range row = sum_over (λ leaf. leaf_amount leaf row) (leaves_of range)

-- the amounts of the jobs that a list of ranges names, by the job's number and the row
abbrev pub amounts : (ℕ → ℕ → ℤ) → List LeafRange → ℕ → ℕ → ℤ
amounts leaf_amount ranges job row = job_amount leaf_amount
    (slice_index_or ranges job (record { first = 0; count = 0 })) row

-- the plain sum at a row over all leaves
abbrev pub sum_over_leaves : (ℕ → ℕ → ℤ) → ℕ → ℕ → ℤ
sum_over_leaves leaf_amount leaves row = sum_over (λ leaf. leaf_amount leaf row) (range_with_len 0 leaves)
