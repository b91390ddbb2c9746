-- The information sets of a tree, as they are found where its players remember their choices (von Stengel 1996).
--     TreeSets, tree_sets t     both players' sets in order, and the numbers of their sequences at each node
--     first_nodes kind t        the number of each set's first node
--     next_nodes t              for each node the number of the next node of its player's set
--     sets_or_break t           the sets, or the first break of perfect recall
use Rattle.std.specs.Prelude.{ℕ, ◌+◌, if◌then◌else◌, List, [], ◌∷◌, map, Option, Some, None, Result, Ok, Err}
use Rattle.def_tree.specs.declared.Kind.{Kind}
use Rattle.def_tree.specs.declared.Kind.TheVariants.{One, Two}
use Rattle.def_tree.specs.Tree.{Forest}
use Rattle.def_game_paths.specs.Paths.{Visit, visits}
use Rattle.def_game_paths.specs.Recall.{Numbered, RecallBreak, first_of_set, is_personal, recall_break}
use Rattle.def_game_paths.specs.Sequences.{sequence_at, set_firsts}
use Rattle.def_plan.specs.Form.{InformationSet}
use Rattle.def_sequence_form.specs.Form.{information_sets}

-- Nodes are numbered from 1 in prefix order.

abbrev pub number_found : Option Numbered → Option ℕ
number_found None = None
number_found (Some first) = Some first.number

abbrev pub number_or_zero : Option Numbered → ℕ
number_or_zero None = 0
number_or_zero (Some first) = first.number

-- the number of the first node of a node's set
abbrev pub first_number : Forest → Visit → ℕ
first_number tree v = number_or_zero (first_of_set 1 v.node (visits tree))

-- the numbers of the first nodes of a kind's sets, in order
abbrev pub first_nodes : Kind → Forest → List ℕ
first_nodes kind tree = map (first_number tree) (set_firsts kind 0 (visits tree))

-- at a player's node, the number of the first node of its set among the later ones, of which the first has this number
abbrev pub next_number : ℕ → Visit → List Visit → Option ℕ
next_number first v later = if is_personal v.node.kind then number_found (first_of_set first v.node later) else None

-- the same for each of these nodes, of which the first has this number
abbrev pub next_numbers : ℕ → List Visit → List (Option ℕ)
next_numbers k [] = []
next_numbers k (v ∷ later) = next_number (k + 1) v later ∷ next_numbers (k + 1) later

-- for each node the number of the next node of its player's set
abbrev pub next_nodes : Forest → List (Option ℕ)
next_nodes tree = next_numbers 1 (visits tree)

-- a player's sets in the order of their first nodes, the numbers of these,
-- and the number of the player's sequence at each node of the tree, in prefix order
pub record PlayerSets : Type 0 where
  pub sets : List InformationSet
  pub first_nodes : List ℕ
  pub at_nodes : List ℕ

-- both players' sets, and for each node in prefix order the number of the next node of its player's set: none at the
-- last one, and none where no player moves
pub record TreeSets : Type 0 where
  pub one : PlayerSets
  pub two : PlayerSets
  pub next_nodes : List (Option ℕ)

abbrev pub sets_with_nodes : Kind → Forest → PlayerSets
sets_with_nodes kind tree = record {
  sets = information_sets kind tree;
  first_nodes = first_nodes kind tree;
  at_nodes = map (sequence_at kind tree) (visits tree);
}

abbrev pub tree_sets : Forest → TreeSets
tree_sets tree = record { one = sets_with_nodes One tree; two = sets_with_nodes Two tree; next_nodes = next_nodes tree }

abbrev pub unless_broken : Option RecallBreak → TreeSets → Result TreeSets RecallBreak
unless_broken None sets = Ok sets
unless_broken (Some broken) sets = Err broken

-- the sets of both players, or the first node before which its player made other choices than before its set's first
-- node
abbrev pub sets_or_break : Forest → Result TreeSets RecallBreak
sets_or_break tree = unless_broken (recall_break tree) (tree_sets tree)
