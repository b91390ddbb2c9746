-- The nodes of each set, as its first node and the next nodes list them.
use Rattle.std.specs.Prelude.{◌≡◌, ℕ, ◌+◌, ◌-◌, ◌<◌, ◌≤◌, ◌&&◌, Bool, false, nat_eq, List, [], ◌∷◌, length, map, filter}
use Rattle.std.specs.Prelude.{slice_get, slice_index, slice_index_or, AllPairs, Option, Some, None}
use Rattle.std.specs.List.{enumerate_from}
use Rattle.def_tree.specs.declared.Kind.{Kind}
use Rattle.def_tree.specs.declared.Kind.TheVariants.{Chance, One, Two}
use Rattle.def_tree.specs.Tree.{Forest, forest_of, node_count}
use Rattle.def_tree.specs.Rules.{IsGameTree, inner_node, is_same_kind, leaf_node, matching_pennies}
use Rattle.def_game_paths.specs.Paths.{Visit, visits}
use Rattle.def_game_paths.specs.Recall.{is_personal}
use Rattle.def_sequence_form.specs.Sets.{PlayerSets, tree_sets}

abbrev pub is_in_set : Kind → ℕ → Visit → Bool
is_in_set kind set v = is_same_kind v.node.kind kind && nat_eq v.node.set set

-- the numbers of the nodes in a kind's set, where nodes are numbered from 1 in prefix order
abbrev pub nodes_of_set : Kind → ℕ → Forest → List ℕ
nodes_of_set kind set tree = map (λ n. n.0) (filter (λ n. is_in_set kind set n.1) (enumerate_from 1 (visits tree)))

-- the set's first node is the first of these numbers, and after each one comes the next
pub record ListsNodes (numbers first_nodes : List ℕ) (next_nodes : List (Option ℕ)) (set : ℕ) : Type 0 where
  pub some : 1 ≤ length numbers
  pub rising : AllPairs (λ m n. m < n) numbers
  pub first : slice_get first_nodes (set - 1) ≡ slice_get numbers 0
  pub next : (j : ℕ) → j < length numbers → slice_get next_nodes (slice_index numbers j - 1)
      ≡ Some (slice_get numbers (j + 1))

-- a player's sets list exactly their nodes, each once and in rising order
pub record PlayerSetsListNodes (tree : Forest) (kind : Kind) (known : PlayerSets) : Type 0 where
  pub count : length known.first_nodes ≡ length known.sets
  pub lists : (set : ℕ) → 1 ≤ set → set ≤ length known.sets
      → ListsNodes (nodes_of_set kind set tree) known.first_nodes (tree_sets tree).next_nodes set

-- at nodes where no player moves there is no next one
pub record SetsListTheirNodes : Type 0 where
  pub one : (tree : Forest) → IsGameTree tree → PlayerSetsListNodes tree One (tree_sets tree).one
  pub two : (tree : Forest) → IsGameTree tree → PlayerSetsListNodes tree Two (tree_sets tree).two
  pub count : (tree : Forest) → length (tree_sets tree).next_nodes ≡ node_count tree
  pub others : (tree : Forest) (k : ℕ) (d : Visit) → k < node_count tree
      → is_personal (slice_index_or (visits tree) k d).node.kind ≡ false
      → slice_get (tree_sets tree).next_nodes k ≡ Some None

-- chance deals three ways; nodes of each player's first sets are far apart
abbrev pub scattered_sets : Forest
scattered_sets = forest_of (
    inner_node Chance 1 3
    ∷ inner_node One 1 2 ∷ inner_node Two 1 2 ∷ leaf_node 1 ∷ leaf_node 2 ∷ inner_node Two 1 2 ∷ leaf_node 3
    ∷ leaf_node 4
    ∷ inner_node One 2 2 ∷ inner_node Two 1 2 ∷ leaf_node 5 ∷ leaf_node 6 ∷ inner_node Two 2 2 ∷ leaf_node 7
    ∷ leaf_node 8
    ∷ inner_node One 1 2 ∷ inner_node Two 2 2 ∷ leaf_node 9 ∷ leaf_node 10 ∷ inner_node Two 1 2 ∷ leaf_node 11
    ∷ leaf_node 12
    ∷ [])

pub record SetNodeRows : Type 0 where
  pub pennies_one : (tree_sets matching_pennies).one.first_nodes ≡ 1 ∷ []
  pub pennies_two : (tree_sets matching_pennies).two.first_nodes ≡ 2 ∷ []
  pub pennies_next : (tree_sets matching_pennies).next_nodes ≡ None ∷ Some 5 ∷ None ∷ None ∷ None ∷ None ∷ None ∷ []
  pub pennies_numbers : nodes_of_set Two 1 matching_pennies ≡ 2 ∷ 5 ∷ []
  pub scattered_one : (tree_sets scattered_sets).one.first_nodes ≡ 2 ∷ 9 ∷ []
  pub scattered_two : (tree_sets scattered_sets).two.first_nodes ≡ 3 ∷ 13 ∷ []
  pub scattered_next : (tree_sets scattered_sets).next_nodes
      ≡ None ∷ Some 16 ∷ Some 6 ∷ None ∷ None ∷ Some 10 ∷ None ∷ None
      ∷ None ∷ Some 20 ∷ None ∷ None ∷ Some 17 ∷ None ∷ None
      ∷ None ∷ None ∷ None ∷ None ∷ None ∷ None ∷ None ∷ []
  pub scattered_numbers : nodes_of_set Two 1 scattered_sets ≡ 3 ∷ 6 ∷ 10 ∷ 20 ∷ []
