-- The paths from a game's root to its nodes, and each player's own choices on them (von Stengel 1996).
--     Move, Visit, visits t         a move on a path; a node with its path;
--                                   the nodes in prefix order, each with its path
--     Choice, own_choices kind p    an action at a set; a player's own choices on a path
use Rattle.std.specs.Prelude.{◌≡◌, ℕ, ◌+◌, ◌-◌, ◌<◌, ◌≤◌, Bool, if◌then◌else◌, List, [], ◌∷◌, ◌++◌, length, map, filter}
use Rattle.std.specs.Prelude.{take, slice_index_or, All, Contains}
use Rattle.def_tree.specs.declared.Kind.{Kind}
use Rattle.def_tree.specs.declared.Node.{Node}
use Rattle.def_tree.specs.Tree.{Forest, bare, grown, prefix, tree_count, drop_trees, IsTree, is_leaf_node}
use Rattle.def_tree.specs.Rules.{is_same_kind}

-- a path goes on from this node by this action, which counts from 1
pub record Move : Type 0 where
  pub node : Node
  pub action : ℕ

-- a node with the path that leads to it, its last move first
pub record Visit : Type 0 where
  pub path : List Move
  pub node : Node

-- the nodes of the trees at the actions from one on, in prefix order;
-- `above action` is the path to the tree at the action
abbrev pub visits_from : (ℕ → List Move) → ℕ → Forest → List Visit
visits_from above action bare = []
visits_from above action (grown node below beside) =
    record { path = above action; node = node }
    ∷ (visits_from (λ next. record { node = node; action = next } ∷ above action) 1 below
    ++ visits_from above (action + 1) beside)

abbrev pub visits : Forest → List Visit
visits tree = visits_from (λ _. []) 1 tree

abbrev pub is_leaf : Visit → Bool
is_leaf visit = is_leaf_node visit.node

-- the leaves in prefix order
abbrev pub leaf_visits : Forest → List Visit
leaf_visits tree = filter is_leaf (visits tree)

-- an action of a set, both counted from 1
pub record Choice : Type 0 where
  pub set : ℕ
  pub action : ℕ

-- the choices on a path that are made at nodes of this kind, the last one first
abbrev pub own_choices : Kind → List Move → List Choice
own_choices kind [] = []
own_choices kind (move ∷ rest) =
    if is_same_kind kind move.node.kind then record { set = move.node.set; action = move.action }
    ∷ own_choices kind rest else own_choices kind rest

-- a player's own choices are all the moves made at the player's nodes, each by its set and its action
abbrev pub OwnChoicesAreMoves : Type 0
OwnChoicesAreMoves = (kind : Kind) (path : List Move) →
    own_choices kind path ≡ map (λ move. record { set = move.node.set; action = move.action })
    (filter (λ move. is_same_kind kind move.node.kind) path)

-- the nodes that are visited are those of the tree
abbrev pub VisitsArePrefix : Type 0
VisitsArePrefix = (tree : Forest) → map (λ visit. visit.node) (visits tree) ≡ prefix tree

-- from the root of a tree the path leads to the first of these trees: its last move goes on from a node by one of the
-- node's actions, and leads to the child at that action
abbrev pub LeadsTo : Forest → List Move → Forest → Type 0
LeadsTo tree [] there = there ≡ tree
LeadsTo tree (move ∷ rest) there =
    (below : Forest) × (beside : Forest) × LeadsTo tree rest (grown move.node below beside) × (1 ≤ move.action)
    × (move.action ≤ tree_count below) × (there ≡ drop_trees (move.action - 1) below)

abbrev pub LeadsToNode : Forest → Visit → Type 0
LeadsToNode tree v = (below : Forest) × (beside : Forest) × LeadsTo tree v.path (grown v.node below beside)

-- each visit's path leads from the root to its node
abbrev pub PathsLeadToNodes : Type 0
PathsLeadToNodes = (tree : Forest) → tree_count tree ≡ 1 → All (LeadsToNode tree) (visits tree)

-- the path goes on from a node that these visits have, with the rest as its path, by one of the node's actions;
-- and so does the rest
abbrev pub GoesThrough : List Visit → List Move → Type 0
GoesThrough before [] = Unit {0}
GoesThrough before (move ∷ rest) = (Contains before (record { path = rest; node = move.node })
    × ((1 ≤ move.action) × (move.action ≤ move.node.children))) × GoesThrough before rest

-- the path of a node is that of its parent with one move more, and the parent is visited before it
abbrev pub ParentsComeBefore : Type 0
ParentsComeBefore = (tree : Forest) → IsTree tree → (k : ℕ) (d : Visit) → k < length (visits tree)
    → GoesThrough (take k (visits tree)) (slice_index_or (visits tree) k d).path

-- how far below the root each node is, in prefix order, where the first of these trees is so far below it
abbrev pub depths_from : ℕ → Forest → List ℕ
depths_from depth bare = []
depths_from depth (grown node below beside) = depth ∷ (depths_from (depth + 1) below ++ depths_from depth beside)

-- a path has as many moves as its node is below the root
abbrev pub PathsAreDepths : Type 0
PathsAreDepths = (tree : Forest) → map (λ v. length v.path) (visits tree) ≡ depths_from 0 tree
