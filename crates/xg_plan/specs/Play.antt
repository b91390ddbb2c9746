-- What holds of every play.
use Rattle.std.specs.Prelude.{◌≡◌, ℕ, ◌≤◌, List, length, slice_index}

-- the empty sequence has a number, and it is 0
pub record KeepsNoneOfEmpty (units : List ℕ) : Type 0 where
  pub there : 1 ≤ length units
  pub none : slice_index units 0 ≡ 0
