-- The nodes on a path, of which the innermost comes first.
use Rattle.std.specs.Prelude.{◌≡◌, ℕ, ◌+◌, ◌^◌, ◌<◌, if◌then◌else◌, List, [], ◌∷◌, Option, Some, None}
use Rattle.def_tree.specs.declared.Node.{Node}
use Rattle.def_tree.specs.declared.Kind.TheVariants.{Chance}
use Rattle.def_tree.specs.Rules.{is_same_kind}
use Rattle.def_fraction.specs.Fraction.{zero_fraction}
use Rattle.def_game_scale.specs.Tables.{certain}
use Rattle.xg_scale.specs.declared.path.NodeOnPath.{NodeOnPath}
use Rattle.xg_scale.specs.declared.path.PathNumbers.{PathNumbers}

abbrev pub chance_set_of : Node → Option ℕ
chance_set_of node = if is_same_kind Chance node.kind then Some node.set else None

-- a node before its first child
abbrev pub entered_node : Node → PathNumbers → NodeOnPath
entered_node node numbers = record { chance_set = chance_set_of node; action = 1; numbers = numbers }

-- the node with its next child at this action
abbrev pub at_action : NodeOnPath → ℕ → NodeOnPath
at_action node action = record { chance_set = node.chance_set; action = action; numbers = node.numbers }

-- what is around the whole tree
abbrev pub empty_path : NodeOnPath
empty_path = record {
  chance_set = None;
  action = 1;
  numbers = record {
    reach = certain;
    one = zero_fraction;
    two = zero_fraction;
  };
}

-- a node is around, and its action leaves room for the next one
abbrev pub HasNodeAround : List NodeOnPath → Type 0
HasNodeAround [] = ⊥
HasNodeAround (around ∷ further) = around.action + 1 < 2 ^ 32

-- of these nodes the innermost goes on at its next action, and the others stay around it
abbrev pub GoesBackTo : List NodeOnPath → NodeOnPath → List NodeOnPath → Type 0
GoesBackTo [] innermost outer = ⊥
GoesBackTo (around ∷ further) innermost outer = (innermost ≡ at_action around (around.action + 1)) × (outer ≡ further)

-- the node that a walk stands at, and those around it
pub record PathNodes : Type 0 where
  pub innermost : NodeOnPath
  pub outer : List NodeOnPath

-- of a leaf that is kept apart, a branch and the nodes around the branch
abbrev pub nodes_with_leaf : Option NodeOnPath → NodeOnPath → List NodeOnPath → PathNodes
nodes_with_leaf None branch outer = record { innermost = branch; outer = outer }
nodes_with_leaf (Some leaf) branch outer = record { innermost = leaf; outer = branch ∷ outer }
