-- The threads of a player's leaves as they are kept: leaves by their numbers from 1, and 0 for none.
use Rattle.std.specs.Prelude.{◌≡◌, ℕ, zero, suc, ◌+◌, ◌-◌, ◌<◌, ◌≤◌, List, length, drop, slice_index, Option, Some}
use Rattle.std.specs.Prelude.{None}
use Rattle.def_tree.specs.declared.Player.{Player}
use Rattle.def_plan.specs.Form.{Leaf as FormLeaf}
use Rattle.def_plan.specs.Threads.{first_leaf, first_leaf_from, next_leaf}

abbrev pub leaf_or_zero : Option ℕ → ℕ
leaf_or_zero None = 0
leaf_or_zero (Some z) = z

abbrev pub leaf_of_number : ℕ → Option ℕ
leaf_of_number zero = None
leaf_of_number (suc z) = Some (suc z)

-- the first leaf of each of so many sequences, and after each leaf the next one
pub record KeepsThreads (player : Player) (count : ℕ) (leaves : List FormLeaf) (first next : List ℕ) : Type 0 where
  pub first_count : length first ≡ count
  pub next_count : length next ≡ length leaves
  pub first_leaves : (s : ℕ) → s < count → slice_index first s ≡ leaf_or_zero (first_leaf player s leaves)
  pub next_leaves : (z : ℕ) → 1 ≤ z → z ≤ length leaves → slice_index next (z - 1)
      ≡ leaf_or_zero (next_leaf player z leaves)

-- the same of the leaves behind the first i alone
pub record LinksLeavesFrom (i : ℕ) (player : Player) (leaves : List FormLeaf) (first next : List ℕ) : Type 0 where
  pub first_leaves : (s : ℕ) → s < length first
      → slice_index first s ≡ leaf_or_zero (first_leaf_from player s (i + 1) (drop i leaves))
  pub next_leaves : (j : ℕ) → i ≤ j → j < length leaves
      → slice_index next j ≡ leaf_or_zero (next_leaf player (j + 1) leaves)
