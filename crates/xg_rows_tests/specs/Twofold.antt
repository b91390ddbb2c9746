-- The amounts of two jobs over three rows.
use Rattle.std.specs.Prelude.{ℕ, ◌+◌, ◌*◌, ◌<◌, ◌≤◌, ℤ, pos, unsigned_abs}
use Rattle.std.proofs.Common.{arith}
use Rattle.def_sums.specs.Limits.{most_row}
use Rattle.def_sums.specs.Sum.{nat_sum_over}
use Rattle.def_history.specs.History.{job_numbers}

-- the first job has a row's number there, the second twice as much
abbrev pub twofold : ℕ → ℕ → ℤ
twofold job row = pos (row * (job + 1))

pub twofold_is_small : (row : ℕ) → row < 3
    → nat_sum_over (λ (job : ℕ). unsigned_abs (twofold job row)) (job_numbers 2) ≤ most_row
twofold_is_small row below = omega arith
