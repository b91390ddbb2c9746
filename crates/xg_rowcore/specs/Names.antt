-- What a name has where there is no job.
use Rattle.std.specs.Prelude.{ℕ, ◌<◌, ◌≤◌, pos, [], unsigned_abs}
use Rattle.std.proofs.Common.{arith}
use Rattle.atomic_table.specs.Seated.{TableId}
use Rattle.def_sums.specs.Limits.{most_row}
use Rattle.def_sums.specs.Sum.{nat_sum_over}
use Rattle.def_history.specs.History.{job_numbers}

-- the name of no table
abbrev pub no_table : TableId
no_table = record { words = 0; slots = 0; views_name = 0; atom = 0; block = 0; offset = 0; slot_names = [] }

-- no job has no amount
pub none_is_small : (row : ℕ) → row < 0 → nat_sum_over (λ (job : ℕ). unsigned_abs (pos 0)) (job_numbers 0) ≤ most_row
none_is_small row none = omega arith
