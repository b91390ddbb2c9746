-- Division that rounds towards minus infinity.
use Rattle.std.specs.Prelude.{ℕ, ◌/◌, ℤ, pos, negsuc, ◌+ℤ◌, ◌*ℤ◌, ◌≤ℤ◌, ◌<ℤ◌}

-- q is the greatest whole number that is at most n / d
pub record IsFloorOf (n : ℤ) (d : ℕ) (q : ℤ) : Type 0 where
  pub at_most : (q *ℤ pos d) ≤ℤ n
  pub above : n <ℤ ((q +ℤ pos 1) *ℤ pos d)

-- that number; `negsuc n` is -(n + 1)
abbrev pub floor_div : ℤ → ℕ → ℤ
floor_div (pos n) d = pos (n / d)
floor_div (negsuc n) d = negsuc (n / d)
