-- The leaves of a form by sequences: of each sequence of a player the first leaf that has it, and after each leaf the
-- next one with the same own sequence. Leaves are numbered from 1, in their order. A leaf has one sequence of each
-- player, the last one on its path, and that is the empty one where the player made no choice.
use Rattle.std.specs.Prelude.{◌≡◌, ℕ, ◌+◌, ◌-◌, ◌<◌, ◌≤◌, ◌↔◌, ℤ, pos, ◌*ℤ◌, List, [], ◌∷◌, length, map, filter, zip}
use Rattle.std.specs.Prelude.{drop}
use Rattle.std.specs.Prelude.{slice_index, slice_get, Contains, ◌==◌, if◌then◌else◌, Option, Some, None}
use Rattle.std.specs.List.{range_with_len}
use Rattle.std.specs.List.Sorted.{IsStrictlyIncreasing}
use Rattle.def_tree.specs.declared.Player.{Player}
use Rattle.def_tree.specs.Opponent.{opponent}
use Rattle.def_plan.specs.Form.{Leaf, leaf_sequence}

-- the number of the first of these leaves that has the sequence, where the first of all has the number z
abbrev pub first_leaf_from : Player → ℕ → ℕ → List Leaf → Option ℕ
first_leaf_from player sequence z [] = None
first_leaf_from player sequence z (x ∷ xs) =
    if leaf_sequence player x == sequence then Some z else first_leaf_from player sequence (z + 1) xs

abbrev pub first_leaf : Player → ℕ → List Leaf → Option ℕ
first_leaf player sequence leaves = first_leaf_from player sequence 1 leaves

-- the player's sequence at leaf z
abbrev pub sequence_of_leaf : Player → ℕ → List Leaf → ℕ
sequence_of_leaf player z leaves = slice_index (map (leaf_sequence player) leaves) (z - 1)

-- what a leaf brings to its own sequence of the player: its weight times the other player's number
abbrev pub paid_at_leaf : Player → List ℕ → Leaf → ℤ
paid_at_leaf player against z = z.weight *ℤ pos (slice_index against (leaf_sequence (opponent player) z))

-- the first leaf after leaf z that has the player's sequence at z
abbrev pub next_leaf : Player → ℕ → List Leaf → Option ℕ
next_leaf player z leaves = first_leaf_from player (sequence_of_leaf player z leaves) (z + 1) (drop z leaves)

-- the leaves with their numbers, where the first has the number z
abbrev pub numbered_from : ℕ → List Leaf → List (ℕ × Leaf)
numbered_from z leaves = zip (range_with_len z (length leaves)) leaves

-- the numbers of the leaves that have the sequence
abbrev pub leaf_numbers_from : Player → ℕ → ℕ → List Leaf → List ℕ
leaf_numbers_from player sequence z leaves =
    map (λ p. p.0) (filter (λ p. leaf_sequence player p.1 == sequence) (numbered_from z leaves))

abbrev pub leaf_numbers : Player → ℕ → List Leaf → List ℕ
leaf_numbers player sequence leaves = leaf_numbers_from player sequence 1 leaves

-- from the first leaf of a sequence on, each next one after the other, these are all leaves that have the sequence,
-- each once, in rising order
pub record AreThreads (player : Player) (sequence : ℕ) (leaves : List Leaf) : Type 0 where
  pub first : first_leaf player sequence leaves ≡ slice_get (leaf_numbers player sequence leaves) 0
  pub next : (j : ℕ) → j < length (leaf_numbers player sequence leaves)
      → next_leaf player (slice_index (leaf_numbers player sequence leaves) j) leaves
      ≡ slice_get (leaf_numbers player sequence leaves) (j + 1)
  pub rising : IsStrictlyIncreasing (leaf_numbers player sequence leaves)
  pub exact : (z : ℕ) → Contains (leaf_numbers player sequence leaves) z
      ↔ ((1 ≤ z) × (z ≤ length leaves) × (sequence_of_leaf player z leaves ≡ sequence))

abbrev pub ThreadsListTheLeaves : Type 0
ThreadsListTheLeaves = (player : Player) (sequence : ℕ) (leaves : List Leaf) → AreThreads player sequence leaves
