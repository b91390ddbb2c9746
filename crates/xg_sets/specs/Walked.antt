-- A walk that notes each node in the sets, and what it finds.
use Rattle.std.specs.Prelude.{◌≡◌, ℕ, ◌-◌, ◌≤◌, [], ◌∷◌, None}
use Rattle.def_tree.specs.declared.Node.{Node}
use Rattle.def_tree.specs.Tree.{Forest, node_count}
use Rattle.def_tree.specs.Rules.{IsGameTree}
use Rattle.def_game_paths.specs.Coming.{visit_after}
use Rattle.xg_sets.specs.declared.building.Building.{Building}
use Rattle.xg_sets.specs.declared.building.SetVisitor.{SetVisitor}
use Rattle.xg_sets.specs.Entered.{AreAt, AreAtFirstChild, AreTablesOf, FindsBreak}
use Rattle.xg_sets.specs.Movers.{GoesBackTo, HasMoverAround, no_mover, step_of}
use Rattle.xg_tree.specs.Stopped.{Steps, UnlessStopped}

-- the tables are those of the nodes before node k, and the innermost has the sequences at it
pub record MayComeNext (tree : Forest) (k : ℕ) (building : Building) : Type 0 where
  pub rules : IsGameTree tree
  pub from_one : 1 ≤ k
  pub there : k ≤ node_count tree
  pub tables : AreTablesOf tree (k - 1) building.tables.one building.tables.two building.tables.next_nodes
  pub at : AreAt tree (visit_after tree (k - 1)).path building.innermost.next

-- node k is noted, and is the innermost, at its first child
pub record HasEntered (tree : Forest) (k : ℕ) (node : Node) (old new : Building) : Type 0 where
  pub tables : AreTablesOf tree k new.tables.one new.tables.two new.tables.next_nodes
  pub step : new.innermost.step ≡ step_of node.kind
  pub below : AreAtFirstChild tree (visit_after tree (k - 1)) new.innermost.next
  pub outer : new.outer ≡ old.innermost ∷ old.outer

-- the innermost is left
pub record HasLeft (old new : Building) : Type 0 where
  pub tables : new.tables ≡ old.tables
  pub back : GoesBackTo old.outer new.innermost new.outer

abbrev pub MayEnter : SetVisitor → ℕ → Node → Type 0
MayEnter visitor k node = UnlessStopped visitor.fault (MayComeNext visitor.building.tree.now k visitor.building)

abbrev pub Enters : SetVisitor → ℕ → Node → SetVisitor → Type 0
Enters old k node new =
    (new.building.tree.now ≡ old.building.tree.now) × Steps old.fault new.fault (FindsBreak old.building.tree.now)
    (HasEntered old.building.tree.now k node old.building new.building)

abbrev pub MayLeave : SetVisitor → ℕ → Type 0
MayLeave visitor k = UnlessStopped visitor.fault (HasMoverAround visitor.building.outer)

abbrev pub Leaves : SetVisitor → ℕ → SetVisitor → Type 0
Leaves old k new =
    (new.building.tree.now ≡ old.building.tree.now) × Steps old.fault new.fault (λ _. ⊥)
    (HasLeft old.building new.building)

-- no node was entered yet
pub record IsBefore (tree : Forest) (visitor : SetVisitor) : Type 0 where
  pub going : visitor.fault ≡ None
  pub rules : IsGameTree tree
  pub tree_is : visitor.building.tree.now ≡ tree
  pub innermost : visitor.building.innermost ≡ no_mover
  pub outer : visitor.building.outer ≡ []
  pub table_one : visitor.building.tables.one ≡ record { rows = []; at_nodes = []; next = 1 }
  pub table_two : visitor.building.tables.two ≡ record { rows = []; at_nodes = []; next = 1 }
  pub next_are : visitor.building.tables.next_nodes ≡ []
