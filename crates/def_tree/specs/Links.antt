-- The links of a tree's nodes: each to its parent, its first child and its next sibling (Knuth, The Art of Computer
-- Programming, 2.3.2 and 2.3.3). Nodes are numbered from 1 in prefix order.
--     children t, children_of t k     the numbers of each node's children, in order; those of node k
--     links t                         the links of each node
--     parent_of t k, first_child_of t k, next_sibling_of t k     the links of node k
--     LinksTellChildren               links say the same as the lists of children
--     LinkRows                        the links of small trees
use Rattle.std.specs.Prelude.{◌≡◌, ◌↔◌, ℕ, ◌+◌, ◌-◌, ◌≤◌, Option, Some, None, List, [], ◌∷◌, ◌++◌, length, map}
use Rattle.std.specs.Prelude.{slice_get, slice_index_or, Contains}
use Rattle.def_tree.specs.declared.Kind.TheVariants.{Chance, One, Two}
use Rattle.def_tree.specs.Tree.{Forest, bare, grown, forest_of, node_count, IsTree}
use Rattle.def_tree.specs.Rules.{inner_node, leaf_node, matching_pennies}

-- the numbers of the top nodes of trees whose nodes count from k on
abbrev pub roots_from : ℕ → Forest → List ℕ
roots_from k bare = []
roots_from k (grown _ below beside) = k ∷ roots_from (k + 1 + node_count below) beside

-- the numbers of each node's children
abbrev pub children_from : ℕ → Forest → List (List ℕ)
children_from k bare = []
children_from k (grown _ below beside) =
    roots_from (k + 1) below ∷ (children_from (k + 1) below ++ children_from (k + 1 + node_count below) beside)

abbrev pub children : Forest → List (List ℕ)
children tree = children_from 1 tree

abbrev pub children_of : Forest → ℕ → List ℕ
children_of tree k = slice_index_or (children tree) (k - 1) []

pub record NodeLinks : Type 0 where
  pub parent : Option ℕ
  pub first_child : Option ℕ
  pub next_sibling : Option ℕ

abbrev first : List ℕ → Option ℕ
first numbers = slice_get numbers 0

-- the links of the nodes of trees that stand below a parent, or below none
abbrev pub links_from : Option ℕ → ℕ → Forest → List NodeLinks
links_from parent k bare = []
links_from parent k (grown _ below beside) =
    record {
      parent = parent;
      first_child = first (roots_from (k + 1) below);
      next_sibling = first (roots_from (k + 1 + node_count below) beside);
    }
    ∷ (links_from (Some k) (k + 1) below ++ links_from parent (k + 1 + node_count below) beside)

abbrev pub links : Forest → List NodeLinks
links tree = links_from None 1 tree

abbrev pub no_links : NodeLinks
no_links = record { parent = None; first_child = None; next_sibling = None }

abbrev pub links_of : Forest → ℕ → NodeLinks
links_of tree k = slice_index_or (links tree) (k - 1) no_links

abbrev pub parent_of : Forest → ℕ → Option ℕ
parent_of tree k = (links_of tree k).parent

abbrev pub first_child_of : Forest → ℕ → Option ℕ
first_child_of tree k = (links_of tree k).first_child

abbrev pub next_sibling_of : Forest → ℕ → Option ℕ
next_sibling_of tree k = (links_of tree k).next_sibling

-- d comes right after c
abbrev pub ComesAfter : List ℕ → ℕ → ℕ → Type 0
ComesAfter numbers c d = (i : ℕ) × (slice_get numbers i ≡ Some c) × (slice_get numbers (i + 1) ≡ Some d)

-- c comes last
abbrev pub ComesLast : List ℕ → ℕ → Type 0
ComesLast numbers c = slice_get numbers (length numbers - 1) ≡ Some c

-- a node's first child is the head of its children; its parent is the node whose child it is, which each node but the
-- root has; its next sibling comes right after it among some node's children, so that a last child and the root have
-- none
pub record LinksFollowChildren (tree : Forest) : Type 0 where
  pub each : length (links tree) ≡ node_count tree
  pub first_child : (k : ℕ) → first_child_of tree k ≡ first (children_of tree k)
  pub parent : (k p : ℕ) → (parent_of tree k ≡ Some p) ↔ ((1 ≤ p) × Contains (children_of tree p) k)
  pub root : (k : ℕ) → 1 ≤ k → k ≤ node_count tree → (parent_of tree k ≡ None) ↔ (k ≡ 1)
  pub next_sibling : (k s : ℕ) → (next_sibling_of tree k ≡ Some s) ↔ ((p : ℕ) × ComesAfter (children_of tree p) k s)
  pub last_child : (k p : ℕ) → ComesLast (children_of tree p) k → next_sibling_of tree k ≡ None
  pub root_alone : next_sibling_of tree 1 ≡ None

abbrev pub LinksTellChildren : Type 0
LinksTellChildren = (tree : Forest) → IsTree tree → LinksFollowChildren tree

-- Small trees.

abbrev pub one_leaf : Forest
one_leaf = forest_of (leaf_node 1 ∷ [])

-- three nodes with one child each over a leaf
abbrev pub chain : Forest
chain = forest_of (inner_node One 1 1 ∷ inner_node Two 1 1 ∷ inner_node Chance 1 1 ∷ leaf_node 1 ∷ [])

-- leaves at every depth
abbrev pub several_depths : Forest
several_depths = forest_of (inner_node Chance 1 3 ∷ leaf_node 1 ∷ inner_node One 1 2 ∷ leaf_node 2 ∷ inner_node Two 1 2
    ∷ leaf_node 3 ∷ leaf_node 4 ∷ inner_node Two 1 2 ∷ leaf_node 5 ∷ inner_node One 2 2 ∷ leaf_node 6 ∷ leaf_node 7
    ∷ [])

-- chance moves within chance moves
abbrev pub nested_chance : Forest
nested_chance = forest_of (inner_node Chance 1 2 ∷ inner_node Chance 2 3 ∷ leaf_node 1 ∷ inner_node Chance 3 2
    ∷ leaf_node 2 ∷ leaf_node 3 ∷ leaf_node 4 ∷ inner_node One 1 2 ∷ leaf_node 5 ∷ inner_node Chance 4 3 ∷ leaf_node 6
    ∷ leaf_node 7 ∷ leaf_node 8 ∷ [])

-- each node's parent, first child and next sibling
pub record HasLinks (tree : Forest) (parents first_children next_siblings : List (Option ℕ)) : Type 0 where
  pub parent : map (λ node. node.parent) (links tree) ≡ parents
  pub first_child : map (λ node. node.first_child) (links tree) ≡ first_children
  pub next_sibling : map (λ node. node.next_sibling) (links tree) ≡ next_siblings

pub record LinkRows : Type 0 where
  pub leaf : HasLinks one_leaf (None ∷ []) (None ∷ []) (None ∷ [])
  pub chain : HasLinks chain (None ∷ Some 1 ∷ Some 2 ∷ Some 3 ∷ []) (Some 2 ∷ Some 3 ∷ Some 4 ∷ None ∷ [])
      (None ∷ None ∷ None ∷ None ∷ [])
  pub pennies : HasLinks matching_pennies (None ∷ Some 1 ∷ Some 2 ∷ Some 2 ∷ Some 1 ∷ Some 5 ∷ Some 5 ∷ [])
      (Some 2 ∷ Some 3 ∷ None ∷ None ∷ Some 6 ∷ None ∷ None ∷ [])
      (None ∷ Some 5 ∷ Some 4 ∷ None ∷ None ∷ Some 7 ∷ None ∷ [])
  pub several_depths : HasLinks several_depths (None ∷ Some 1 ∷ Some 1 ∷ Some 3 ∷ Some 3 ∷ Some 5 ∷ Some 5 ∷ Some 1
      ∷ Some 8 ∷ Some 8 ∷ Some 10 ∷ Some 10 ∷ [])
      (Some 2 ∷ None ∷ Some 4 ∷ None ∷ Some 6 ∷ None ∷ None ∷ Some 9 ∷ None ∷ Some 11 ∷ None ∷ None ∷ [])
      (None ∷ Some 3 ∷ Some 8 ∷ Some 5 ∷ None ∷ Some 7 ∷ None ∷ None ∷ Some 10 ∷ None ∷ Some 12 ∷ None ∷ [])
  pub nested_chance : HasLinks nested_chance (None ∷ Some 1 ∷ Some 2 ∷ Some 2 ∷ Some 4 ∷ Some 4 ∷ Some 2 ∷ Some 1
      ∷ Some 8 ∷ Some 8 ∷ Some 10 ∷ Some 10 ∷ Some 10 ∷ [])
      (Some 2 ∷ Some 3 ∷ None ∷ Some 5 ∷ None ∷ None ∷ None ∷ Some 9 ∷ None ∷ Some 11 ∷ None ∷ None ∷ None ∷ [])
      (None ∷ Some 8 ∷ Some 4 ∷ Some 7 ∷ Some 6 ∷ None ∷ None ∷ None ∷ Some 10 ∷ None ∷ Some 12 ∷ Some 13 ∷ None ∷ [])
