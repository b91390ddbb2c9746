-- The nested tree of an extensive game, and its nodes in prefix order (Gambit's manual, "The extensive game (.efg) file
-- format"; Knuth, The Art of Computer Programming, 2.3.2 and 2.3.3).
--     Forest, grown, bare                    trees side by side, each a node over the trees of its children
--     prefix t, node_count t, leaf_count t   the nodes in prefix order; how many there are,
--                                            and how many of them are leaves
--     tree_count t, HasItsChildren t, IsTree t    how many trees; each node has as many children as it says;
--                                                 one tree, of which that holds
--     forest_of ns                           the trees whose nodes in prefix order these are
--     wanted n ns, Begins n ns, IsWhole ns   how many nodes are still to come; the nodes begin n trees;
--                                            they are one whole tree
use Rattle.std.specs.Prelude.{◌≡◌, ℕ, ◌+◌, ◌-◌, ◌<◌, zero, suc, Bool, true, false, List, [], ◌∷◌, ◌++◌, length}
use Rattle.std.specs.Prelude.{count_by, ◌↔◌}
use Rattle.def_tree.specs.declared.Kind.{Kind}
use Rattle.def_tree.specs.declared.Kind.TheVariants.{Chance, One, Two, Leaf}
use Rattle.def_tree.specs.declared.Node.{Node}

-- trees side by side: none, or a first one, which is a node over the trees of its children, with the others beside it
pub data Forest : Type 0 where
  bare : Forest
  grown : (node : Node) (below beside : Forest) → Forest

-- the nodes in prefix order: a node, then those below it, then those beside it
abbrev pub prefix : Forest → List Node
prefix bare = []
prefix (grown node below beside) = node ∷ (prefix below ++ prefix beside)

abbrev pub node_count : Forest → ℕ
node_count trees = length (prefix trees)

abbrev pub is_leaf_kind : Kind → Bool
is_leaf_kind Chance = false
is_leaf_kind One = false
is_leaf_kind Two = false
is_leaf_kind Leaf = true

abbrev pub is_leaf_node : Node → Bool
is_leaf_node node = is_leaf_kind node.kind

abbrev pub leaf_count : List Node → ℕ
leaf_count nodes = count_by (λ node. is_leaf_kind node.kind) nodes

-- how many trees stand side by side
abbrev pub tree_count : Forest → ℕ
tree_count bare = 0
tree_count (grown _ _ beside) = suc (tree_count beside)

-- each node has as many children as it says
abbrev pub HasItsChildren : Forest → Type 0
HasItsChildren bare = Unit {0}
HasItsChildren (grown node below beside) = (tree_count below ≡ node.children) × HasItsChildren below
    × HasItsChildren beside

pub record IsTree (trees : Forest) : Type 0 where
  pub one : tree_count trees ≡ 1
  pub children : HasItsChildren trees

abbrev pub take_trees : ℕ → Forest → Forest
take_trees zero _ = bare
take_trees (suc _) bare = bare
take_trees (suc n) (grown node below beside) = grown node below (take_trees n beside)

abbrev pub drop_trees : ℕ → Forest → Forest
drop_trees zero trees = trees
drop_trees (suc _) bare = bare
drop_trees (suc n) (grown _ _ beside) = drop_trees n beside

-- the trees whose nodes in prefix order these are:
-- the first node stands over as many of the trees behind it as it has children
abbrev pub forest_of : List Node → Forest
forest_of [] = bare
forest_of (node ∷ rest) = grown node (take_trees node.children (forest_of rest))
    (drop_trees node.children (forest_of rest))

-- how many nodes are still wanted after these, where n were wanted before them:
-- each takes its own place, and opens one for each child
abbrev pub wanted : ℕ → List Node → ℕ
wanted n [] = n
wanted n (node ∷ rest) = wanted (n + node.children - 1) rest

-- the nodes begin n trees: each of them comes where one is wanted
abbrev pub Begins : ℕ → List Node → Type 0
Begins n [] = Unit {0}
Begins n (node ∷ rest) = (0 < n) × Begins (n + node.children - 1) rest

-- the nodes are those of one whole tree
pub record IsWhole (nodes : List Node) : Type 0 where
  pub begins : Begins 1 nodes
  pub ends : wanted 1 nodes ≡ 0

-- the nodes of any list are those of its trees
abbrev pub PrefixOfForest : Type 0
PrefixOfForest = (nodes : List Node) → prefix (forest_of nodes) ≡ nodes

-- trees whose nodes have as many children as they say are determined by their nodes in prefix order
abbrev pub ForestOfPrefix : Type 0
ForestOfPrefix = (trees : Forest) → HasItsChildren trees → forest_of (prefix trees) ≡ trees

-- exactly the lists of nodes that are a whole tree give one tree, in which each node has as many children as it says
abbrev pub WholeIffTree : Type 0
WholeIffTree = (nodes : List Node) → IsWhole nodes ↔ IsTree (forest_of nodes)
