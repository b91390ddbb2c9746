-- The sequence form of a game of two players (von Stengel 1996):
-- each player's information sets and sequences, and the leaves.
-- A player's sequences are numbered from 0, the empty one. Then come those that end at the first set, in the order of
-- its actions, then those of the second set, and so on.
use Rattle.std.specs.Prelude.{ℕ, ◌+◌, ◌≤◌, ◌<◌, List, [], ◌∷◌, ℤ, All}
use Rattle.std.specs.List.{range_with_len}
use Rattle.def_tree.specs.declared.Player.{Player}
use Rattle.def_tree.specs.declared.Player.TheVariants.{One, Two}
use Rattle.def_sums.specs.Sum.{nat_sum_over}

-- an information set: its player's sequence before it, and how many actions it has.
-- Sets stand in the order of their first appearance
pub record InformationSet : Type 0 where
  pub before : ℕ
  pub actions : ℕ

-- a set with the number of the first sequence that ends at it
pub record PlacedSet : Type 0 where
  pub first : ℕ
  pub before : ℕ
  pub actions : ℕ

-- the sets one after the other, where the next sequence has the number `first`
abbrev pub placed_from : ℕ → List InformationSet → List PlacedSet
placed_from first [] = []
placed_from first (h ∷ hs) = record { first = first; before = h.before; actions = h.actions }
    ∷ placed_from (first + h.actions) hs

abbrev pub placed : List InformationSet → List PlacedSet
placed sets = placed_from 1 sets

-- the sequences that end at a set
abbrev pub sequences_of : PlacedSet → List ℕ
sequences_of h = range_with_len h.first h.actions

-- how many sequences a player has, and all of them
abbrev pub sequence_count : List InformationSet → ℕ
sequence_count sets = 1 + nat_sum_over (λ h. h.actions) sets

abbrev pub sequences : List InformationSet → List ℕ
sequences sets = range_with_len 0 (sequence_count sets)

-- a set has an action, and its sequences come after the one before it
abbrev pub IsInOrder : PlacedSet → Type 0
IsInOrder h = (1 ≤ h.actions) × (h.before < h.first)

abbrev pub AreInOrder : List InformationSet → Type 0
AreInOrder sets = All IsInOrder (placed sets)

-- a leaf: the last own sequence of each player on its path, and its weight,
-- which is reach times player one's payoff in whole numbers
pub record Leaf : Type 0 where
  pub sequence_one : ℕ
  pub sequence_two : ℕ
  pub weight : ℤ

-- a leaf by both players' sequences and its weight
abbrev pub weighted : ℕ → ℕ → ℤ → Leaf
weighted sequence_one sequence_two weight = record {
  sequence_one = sequence_one;
  sequence_two = sequence_two;
  weight = weight;
}

pub record SequenceForm : Type 0 where
  pub sets_one : List InformationSet
  pub sets_two : List InformationSet
  pub leaves : List Leaf

abbrev pub player_sets : SequenceForm → Player → List InformationSet
player_sets form One = form.sets_one
player_sets form Two = form.sets_two

-- a player's sequence at a leaf
abbrev pub leaf_sequence : Player → Leaf → ℕ
leaf_sequence One z = z.sequence_one
leaf_sequence Two z = z.sequence_two
