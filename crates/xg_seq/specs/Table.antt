-- A player's sets in rows, and the number of the set at which each sequence ends.
use Rattle.std.specs.Prelude.{◌≡◌, ℕ, ◌+◌, ◌-◌, ◌<◌, ◌≤◌, List, [], ◌∷◌, ◌++◌, length, map, replicate, slice_index_or}
use Rattle.std.specs.Prelude.{All}
use Rattle.def_tree.specs.Rules.{most_actions, most_nodes}
use Rattle.def_plan.specs.Form.{AreInOrder, InformationSet, PlacedSet, placed, sequence_count}
use Rattle.xg_seq.specs.declared.table.SetPlace.{SetPlace}

-- a player has no more sequences than the tree has nodes
abbrev pub most_sequences : ℕ
most_sequences = most_nodes

-- no set has more actions than a node of the tree can have
abbrev pub HaveFewActions : List InformationSet → Type 0
HaveFewActions sets = All (λ h. h.actions ≤ most_actions) sets

abbrev pub set_of_row : SetPlace → InformationSet
set_of_row row = record { before = row.before; actions = row.actions }

abbrev pub placed_of_row : SetPlace → PlacedSet
placed_of_row row = record { first = row.first; before = row.before; actions = row.actions }

-- for each sequence that ends at these sets, in turn, the number of its set, where the first set has the number k
abbrev pub set_numbers_from : ℕ → List SetPlace → List ℕ
set_numbers_from k [] = []
set_numbers_from k (row ∷ rows) = replicate row.actions k ++ set_numbers_from (k + 1) rows

-- the sequence ends at the set of this number: it is one of those that the set's place tells
pub record EndsAt (sets : List InformationSet) (sequence set : ℕ) : Type 0 where
  pub from_one : 1 ≤ set
  pub there : set ≤ length sets
  pub first : (d : PlacedSet) → (slice_index_or (placed sets) (set - 1) d).first ≤ sequence
  pub end : (d : PlacedSet)
      → sequence < (slice_index_or (placed sets) (set - 1) d).first + (slice_index_or (placed sets) (set - 1) d).actions

-- the rows are sets in order, each in its place, and these are the numbers of their sequences' sets
pub record KeepsSets (rows : List SetPlace) (set_numbers : List ℕ) : Type 0 where
  pub places : map placed_of_row rows ≡ placed (map set_of_row rows)
  pub numbers : set_numbers ≡ set_numbers_from 1 rows
  pub order : AreInOrder (map set_of_row rows)
  pub limit : sequence_count (map set_of_row rows) ≤ most_sequences
  pub few_actions : HaveFewActions (map set_of_row rows)
