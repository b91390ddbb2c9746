-- The rules of sets in a game's tree.
--     set_count kind ns     how many sets of the kind these nodes are in
--     Fits before node      the node keeps the rules after these nodes
--     KeepRules ns          each of the nodes keeps the rules after those before it
--     IsGameTree t          a tree that keeps the rules, within the limit of nodes
--     most_actions, most_nodes     the limits: a set's actions, a tree's nodes. Both are this project's own
use Rattle.std.specs.Prelude.{◌≡◌, ◌↔◌, ℕ, ◌+◌, ◌<◌, ◌≤◌, Bool, true, false, if◌then◌else◌, max, List, [], ◌∷◌, length}
use Rattle.std.specs.Prelude.{take, slice_index_or, All, AllPairs, Contains}
use Rattle.def_tree.specs.declared.TheConstants.{MOST_ACTIONS, MOST_NODES}
use Rattle.def_tree.specs.declared.Kind.{Kind}
use Rattle.def_tree.specs.declared.Kind.TheVariants.{Chance, One, Two, Leaf}
use Rattle.def_tree.specs.declared.Node.{Node}
use Rattle.def_tree.specs.Tree.{Forest, forest_of, prefix, node_count, IsTree}

abbrev pub most_actions : ℕ
most_actions = MOST_ACTIONS

abbrev pub most_nodes : ℕ
most_nodes = MOST_NODES

abbrev pub is_same_kind : Kind → Kind → Bool
is_same_kind Chance Chance = true
is_same_kind One One = true
is_same_kind Two Two = true
is_same_kind Leaf Leaf = true
is_same_kind _ _ = false

-- how many sets of a kind these nodes are in: sets are numbered by first appearance, so it is the greatest number
abbrev pub set_count : Kind → List Node → ℕ
set_count kind [] = 0
set_count kind (node ∷ rest) = if is_same_kind kind node.kind then max node.set (set_count kind rest) else set_count
    kind rest

-- two nodes that are in one set have equally many children
abbrev pub AgreeOnSize : Node → Node → Type 0
AgreeOnSize x y = x.kind ≡ y.kind → x.set ≡ y.set → x.children ≡ y.children

-- a leaf is in no set and has no children
pub record IsBareLeaf (node : Node) : Type 0 where
  pub set : node.set ≡ 0
  pub children : node.children ≡ 0

-- the node is in a set of its kind that came before, or in the next one; it has 1 to 1,024 children, and as many as
-- each earlier node of its set
pub record JoinsSet (before : List Node) (node : Node) : Type 0 where
  pub counts : 1 ≤ node.set
  pub next : node.set ≤ set_count node.kind before + 1
  pub some : 1 ≤ node.children
  pub limit : node.children ≤ most_actions
  pub agrees : All (λ earlier. AgreeOnSize earlier node) before

abbrev pub FitsAs : Kind → List Node → Node → Type 0
FitsAs Leaf before node = IsBareLeaf node
FitsAs _ before node = JoinsSet before node

-- the node keeps the rules after these nodes
abbrev pub Fits : List Node → Node → Type 0
Fits before node = FitsAs node.kind before node

-- each of the nodes keeps the rules after those before it
abbrev pub KeepRules : List Node → Type 0
KeepRules nodes = (k : ℕ) (d : Node) → k < length nodes → Fits (take k nodes) (slice_index_or nodes k d)

-- one tree that keeps the rules, within the limit of nodes
pub record IsGameTree (whole : Forest) : Type 0 where
  pub tree : IsTree whole
  pub rules : KeepRules (prefix whole)
  pub limit : node_count whole ≤ most_nodes

-- by the rules, all nodes of one set have equally many children
abbrev pub SetsAgreeOnSize : Type 0
SetsAgreeOnSize = (nodes : List Node) → KeepRules nodes → AllPairs AgreeOnSize nodes

-- by the rules, each number of a kind's sets is that of a node
abbrev pub EachSetAppears : Type 0
EachSetAppears = (nodes : List Node) → KeepRules nodes → (kind : Kind) (i : ℕ) → 1 ≤ i → i ≤ set_count kind nodes →
    (node : Node) × (Contains nodes node × ((node.kind ≡ kind) × (node.set ≡ i)))

-- Nodes by their parts, and a small game, for rows.

-- a node by its set, its outcome and how many children it has
abbrev pub node_of_numbers : Kind → ℕ → ℕ → ℕ → Node
node_of_numbers kind set outcome children = record { kind = kind; set = set; outcome = outcome; children = children }

abbrev pub inner_node : Kind → ℕ → ℕ → Node
inner_node kind set children = node_of_numbers kind set 0 children

abbrev pub leaf_node : ℕ → Node
leaf_node outcome = node_of_numbers Leaf 0 outcome 0

-- player two doesn't see player one's choice
abbrev pub matching_pennies : Forest
matching_pennies = forest_of (inner_node One 1 2 ∷ inner_node Two 1 2 ∷ leaf_node 1 ∷ leaf_node 2 ∷ inner_node Two 1 2
    ∷ leaf_node 2 ∷ leaf_node 1 ∷ [])

-- The rules at their edges.

-- a first node has 1 to 1,024 children; after it come a node of its set with as many, one of the next set, and one of
-- another kind's first set; a leaf has no set and no children
pub record RuleRows : Type 0 where
  pub first : (n : ℕ) → Fits [] (inner_node Chance 1 n) ↔ ((1 ≤ n) × (n ≤ 1024))
  pub first_set : ¬ (Fits [] (inner_node Chance 2 2))
  pub set_zero : ¬ (Fits [] (inner_node Chance 0 2))
  pub same_set : (n : ℕ) → Fits (inner_node One 1 2 ∷ []) (inner_node One 1 n) ↔ (n ≡ 2)
  pub next_set : Fits (inner_node One 1 2 ∷ []) (inner_node One 2 3)
  pub set_left_out : ¬ (Fits (inner_node One 1 2 ∷ []) (inner_node One 3 2))
  pub other_kind : Fits (inner_node One 1 2 ∷ []) (inner_node Two 1 3)
  pub other_kinds_next : ¬ (Fits (inner_node One 1 2 ∷ []) (inner_node Two 2 2))
  pub leaf : (set children : ℕ) → Fits [] (inner_node Leaf set children) ↔ ((set ≡ 0) × (children ≡ 0))
  pub nodes : (tree : Forest) → IsTree tree → KeepRules (prefix tree) → IsGameTree tree ↔ (node_count tree ≤ 1048576)
