-- Sums of leaves along threads, where the sum from each leaf on stands at its place.
use Rattle.std.specs.Prelude.{◌≡◌, ℕ, ◌+◌, ◌-◌, ◌*◌, ◌^◌, ◌<◌, ◌≤◌, List, length, drop, ℤ, pos, unsigned_abs, Option}
use Rattle.std.specs.Prelude.{Some, None, IfSome}
use Rattle.def_tree.specs.declared.Player.{Player}
use Rattle.def_plan.specs.Form.{Leaf}
use Rattle.def_plan.specs.Payoff.{leaf_sum}
use Rattle.def_plan.specs.Threads.{sequence_of_leaf}
use Rattle.xg_check.specs.Views.{row}

-- the number of one of so many leaves, or none
abbrev pub IsNumberWithin : ℕ → Option ℕ → Type 0
IsNumberWithin count next = IfSome next (λ z. (1 ≤ z) × (z ≤ count))

-- the sum that stands at a leaf, and 0 where there is none
abbrev pub sum_on : List ℤ → Option ℕ → ℤ
sum_on sums None = pos 0
sum_on sums (Some z) = row sums (z - 1)

-- at each leaf from this place on stands the sum of it and of the later leaves of its sequence
pub record HasSumsFrom (i : ℕ) (player : Player) (leaves : List Leaf) (against : List ℕ) (sums : List ℤ) : Type 0 where
  pub whole : (j : ℕ) → i ≤ j → j < length leaves
      → row sums j ≡ leaf_sum player (drop j leaves) against (sequence_of_leaf player (j + 1) leaves)
  pub small : (j : ℕ) → i ≤ j → j < length leaves → unsigned_abs (row sums j) ≤ (length leaves - j) * 2 ^ 99
