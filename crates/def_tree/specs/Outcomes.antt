-- Outcomes numbered by first appearance. Outcome 0 is the null outcome.
use Rattle.std.specs.Prelude.{◌≡◌, ℕ, ◌+◌, ◌<◌, ◌≤◌, max, List, [], ◌∷◌, length, take, slice_index_or, Contains}
use Rattle.def_tree.specs.declared.Node.{Node}

-- how many outcomes these nodes have, the null outcome aside: the greatest number
abbrev pub outcome_count : List Node → ℕ
outcome_count [] = 0
outcome_count (node ∷ rest) = max node.outcome (outcome_count rest)

-- each node has an outcome that came before, or the next one
abbrev pub CountOutcomes : List Node → Type 0
CountOutcomes nodes = (k : ℕ) (d : Node) → k < length nodes → (slice_index_or nodes k d).outcome
    ≤ outcome_count (take k nodes) + 1

-- then each number is that of a node's outcome
abbrev pub EachOutcomeAppears : Type 0
EachOutcomeAppears = (nodes : List Node) → CountOutcomes nodes → (i : ℕ) → 1 ≤ i → i ≤ outcome_count nodes
    → (node : Node) × (Contains nodes node × (node.outcome ≡ i))
