-- A walk through a tree, depth first: a node is entered before its children and left after the last of them.
--     Event, Enter, Leave      a step of a walk
--     events_from k t          the walk through trees whose nodes in prefix order count from k on
--     events t                 the walk through a tree
--     KeepsNesting             each step is the next one that the nesting of the nodes allows
--     Accepts, Leads           a visitor may be called so; the calls lead it from one state to another
use Rattle.std.specs.Prelude.{◌≡◌, ℕ, ◌+◌, ◌-◌, ◌≤◌, List, [], ◌∷◌, ◌++◌, filter, nat_eq}
use Rattle.std.specs.List.{enumerate_from}
use Rattle.def_tree.specs.declared.Node.{Node}
use Rattle.def_tree.specs.Tree.{Forest, bare, grown, node_count, prefix, IsTree}

pub data Event : Type 0 where
  Enter : (k : ℕ) (node : Node) → Event
  Leave : (k : ℕ) → Event

-- the first node is entered, then its children's trees are walked through and it is left,
-- and then come the trees beside it
abbrev pub events_from : ℕ → Forest → List Event
events_from k bare = []
events_from k (grown node below beside) =
    Enter k node ∷ (events_from (k + 1) below ++ (Leave k ∷ events_from (k + 1 + node_count below) beside))

abbrev pub events : Forest → List Event
events tree = events_from 1 tree

-- the nodes that are entered, with their numbers
abbrev pub entered : List Event → List (ℕ × Node)
entered [] = []
entered (Enter k node ∷ rest) = (k, node) ∷ entered rest
entered (Leave _ ∷ rest) = entered rest

-- a walk enters each node once, in prefix order, under its number
abbrev pub EntersInPrefixOrder : Type 0
EntersInPrefixOrder = (tree : Forest) → entered (events tree) ≡ enumerate_from 1 (prefix tree)

-- the numbers of the nodes that are left
abbrev pub left : List Event → List ℕ
left [] = []
left (Enter _ _ ∷ rest) = left rest
left (Leave k ∷ rest) = k ∷ left rest

-- a walk leaves each node once
abbrev pub LeavesEachOnce : Type 0
LeavesEachOnce = (tree : Forest) (k : ℕ) → 1 ≤ k → k ≤ node_count tree
    → filter (λ n. nat_eq n k) (left (events tree)) ≡ k ∷ []

-- a node that was entered and isn't left yet: its number, and how many of its children are still to be entered
pub record OpenNode : Type 0 where
  pub number : ℕ
  pub to_come : ℕ

-- these steps lead from the open nodes, the innermost first, to others: a node is entered as the next child of the
-- innermost open one, and the innermost open node is left where none of its children is to come any more
abbrev pub KeepsNesting : List OpenNode → List Event → List OpenNode → Type 0
KeepsNesting opened [] end = opened ≡ end
KeepsNesting [] (Enter k node ∷ rest) end = ⊥
KeepsNesting (top ∷ outer) (Enter k node ∷ rest) end =
    (1 ≤ top.to_come) × KeepsNesting (record { number = k; to_come = node.children }
    ∷ (record { number = top.number; to_come = top.to_come - 1 } ∷ outer)) rest end
KeepsNesting [] (Leave k ∷ rest) end = ⊥
KeepsNesting (top ∷ outer) (Leave k ∷ rest) end = (top.number ≡ k) × (top.to_come ≡ 0) × KeepsNesting outer rest end

-- so many trees are to come, under no node
abbrev pub outside : ℕ → List OpenNode
outside trees = record { number = 0; to_come = trees } ∷ []

-- a walk leaves a node after its last child, with all that is below it, and before it enters any other node
abbrev pub LeavesAfterLastChild : Type 0
LeavesAfterLastChild = (tree : Forest) → IsTree tree → KeepsNesting (outside 1) (events tree) (outside 0)

-- `may_enter` and `may_leave` say when a visitor may be called, and `enters` and `leaves` what it can be after the call
module _ {V : Type 0} (may_enter : V → ℕ → Node → Type 0) (enters : V → ℕ → Node → V → Type 0)
    (may_leave : V → ℕ → Type 0) (leaves : V → ℕ → V → Type 0) where
  -- the visitor may be called with these steps in their order, whatever the calls make of it
  abbrev pub Accepts : List Event → V → Type 0
  Accepts [] v = Unit {0}
  Accepts (Enter k node ∷ rest) v = may_enter v k node × ((w : V) → enters v k node w → Accepts rest w)
  Accepts (Leave k ∷ rest) v = may_leave v k × ((w : V) → leaves v k w → Accepts rest w)

  -- called with these steps in their order, the visitor v can become w
  abbrev pub Leads : List Event → V → V → Type 0
  Leads [] v w = w ≡ v
  Leads (Enter k node ∷ rest) v w = (u : V) × enters v k node u × Leads rest u w
  Leads (Leave k ∷ rest) v w = (u : V) × leaves v k u × Leads rest u w
