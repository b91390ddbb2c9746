-- Perfect recall: at each node of a set its player has made the same own choices (von Stengel 1996).
--     HasPerfectRecall t       the fact, on all pairs of nodes of one set
--     recall_break t           the first node at which it fails, and the first node of its set
--     first_break differs      the same by any test of two nodes
use Rattle.std.specs.Prelude.{◌≡◌, ◌≢◌, ◌↔◌, ℕ, ◌+◌, ◌-◌, ◌<◌, ◌≤◌, Bool, true, false, ◌&&◌, nat_eq, not, if◌then◌else◌}
use Rattle.std.specs.Prelude.{List, [], ◌∷◌, length, slice_index_or, AllPairs, Option, Some, None}
use Rattle.def_tree.specs.declared.Kind.{Kind}
use Rattle.def_tree.specs.declared.Kind.TheVariants.{Chance, One, Two, Leaf}
use Rattle.def_tree.specs.declared.Node.{Node}
use Rattle.def_tree.specs.Tree.{Forest}
use Rattle.def_tree.specs.Rules.{is_same_kind}
use Rattle.def_game_paths.specs.Paths.{Visit, visits, Choice, own_choices}

abbrev pub is_personal : Kind → Bool
is_personal Chance = false
is_personal One = true
is_personal Two = true
is_personal Leaf = false

-- the choices that the node's player made before it
abbrev pub past : Visit → List Choice
past visit = own_choices visit.node.kind visit.path

-- where two nodes are in one set of a player, this player made the same choices before both
abbrev pub AgreeOnPast : Visit → Visit → Type 0
AgreeOnPast v w = is_personal v.node.kind ≡ true → v.node.kind ≡ w.node.kind → v.node.set ≡ w.node.set → past v ≡ past w

abbrev pub HasPerfectRecall : Forest → Type 0
HasPerfectRecall tree = AllPairs AgreeOnPast (visits tree)

-- Where it fails first. Nodes are numbered from 1.

abbrev pub is_same_set : Node → Node → Bool
is_same_set x y = is_same_kind x.kind y.kind && nat_eq x.set y.set

abbrev pub is_same_choices : List Choice → List Choice → Bool
is_same_choices [] [] = true
is_same_choices [] (_ ∷ _) = false
is_same_choices (_ ∷ _) [] = false
is_same_choices (x ∷ xs) (y ∷ ys) = nat_eq x.set y.set && (nat_eq x.action y.action && is_same_choices xs ys)

pub record Numbered : Type 0 where
  pub number : ℕ
  pub visit : Visit

-- the first node that is in the same set as this one, where the nodes count from k on
abbrev pub first_of_set : ℕ → Node → List Visit → Option Numbered
first_of_set k node [] = None
first_of_set k node (v ∷ rest) = if is_same_set v.node node then Some (record { number = k; visit = v })
    else first_of_set (k + 1) node rest

-- a node at which recall fails, and the first node of its set
pub record RecallBreak : Type 0 where
  pub node : ℕ
  pub earlier : ℕ

-- the first node of its set differs from a player's node, by this test of the two
abbrev pub break_against : (Visit → Visit → Bool) → ℕ → Visit → Option Numbered → Option RecallBreak
break_against differs k v None = None
break_against differs k v (Some first) = if is_personal v.node.kind
    && differs first.visit v then Some (record { node = k; earlier = first.number }) else None

abbrev pub break_or : Option RecallBreak → Option RecallBreak → Option RecallBreak
break_or None later = later
break_or (Some broken) later = Some broken

abbrev pub first_break : (Visit → Visit → Bool) → List Visit → ℕ → List Visit → Option RecallBreak
first_break differs all k [] = None
first_break differs all k (v ∷ rest) = break_or (break_against differs k v (first_of_set 1 v.node all))
    (first_break differs all (k + 1) rest)

-- the players of the two nodes made other choices before them
abbrev pub differ_in_past : Visit → Visit → Bool
differ_in_past first v = not (is_same_choices (past first) (past v))

abbrev pub recall_break : Forest → Option RecallBreak
recall_break tree = first_break differ_in_past (visits tree) 1 (visits tree)

-- exactly a tree with perfect recall has no break
abbrev pub NoBreakIffRecall : Type 0
NoBreakIffRecall = (tree : Forest) → (recall_break tree ≡ None) ↔ HasPerfectRecall tree

-- at node number `broken.node` the player's past isn't that of the set's first node, which is `broken.earlier`; `at`
-- reads a node by its number
pub record BreaksRecall (at : ℕ → Visit) (count : ℕ) (broken : RecallBreak) : Type 0 where
  pub in_range : (1 ≤ broken.earlier) × (broken.earlier < broken.node) × (broken.node ≤ count)
  pub personal : is_personal (at broken.node).node.kind ≡ true
  pub set : is_same_set (at broken.earlier).node (at broken.node).node ≡ true
  pub first : (k : ℕ) → 1 ≤ k → k < broken.earlier → is_same_set (at k).node (at broken.node).node ≡ false
  pub differs : past (at broken.earlier) ≢ past (at broken.node)

-- a break is one, and no node before it has one
pub record IsFirstBreak (at : ℕ → Visit) (count : ℕ) (broken : RecallBreak) : Type 0 where
  pub breaks : BreaksRecall at count broken
  pub first : (other : RecallBreak) → BreaksRecall at count other → broken.node ≤ other.node

abbrev pub BreakIsFirst : Type 0
BreakIsFirst = (tree : Forest) (d : Visit) (broken : RecallBreak) → recall_break tree ≡ Some broken →
    IsFirstBreak (λ k. slice_index_or (visits tree) (k - 1) d) (length (visits tree)) broken
