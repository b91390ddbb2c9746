-- A walk through the trees at a node's actions, below the movers around it, finds the first break of recall, or notes all
-- nodes.
use Rattle.std.proofs.Common.{◌≡◌, ℕ, ◌+◌, ◌-◌, ◌<◌, ◌≤◌, true, false, cond, List, [], ◌∷◌, ◌++◌, drop, refl, ap, sym, subst, ◌∙◌, arith, append-nil, Some}
use Rattle.std.proofs.Common.{None}
use Rattle.std.specs.Prelude.{Option, sum}
use Rattle.def_tree.specs.declared.Kind.{Kind}
use Rattle.def_tree.specs.declared.Kind.TheVariants.{Chance, One, Two, Leaf}
use Rattle.def_tree.specs.declared.Node.{Node}
use Rattle.def_tree.specs.Events.{Event, Leads, events_from}
use Rattle.def_tree.specs.Tree.{Forest, grown, is_leaf_kind, node_count}
use Rattle.def_tree.specs.Rules.{IsGameTree, is_same_kind}
use Rattle.def_game_paths.specs.Coming.{no_visit, visit_after}
use Rattle.def_game_paths.specs.Paths.{Move, Visit, own_choices, visits, visits_from}
use Rattle.def_game_paths.specs.Sequences.{first_sequence, sequence_at, sequence_number, set_sizes}
use Rattle.def_game_paths.proofs.Standing.{StandsBefore, paths_below, stands_before}
use Rattle.def_game_paths.proofs.Counts.{each_sequence_is_in_range, sequences_are_few}
use Rattle.xg_sets.specs.declared.building.Building.{Building}
use Rattle.xg_sets.specs.declared.building.RecallFault.{RecallFault}
use Rattle.xg_sets.specs.declared.building.SetVisitor.{SetVisitor}
use Rattle.xg_sets.specs.declared.building.FoundTables.{FoundTables}
use Rattle.xg_sets.specs.declared.movers.Mover.{Mover}
use Rattle.xg_sets.specs.declared.movers.Sequences.{Sequences}
use Rattle.xg_sets.specs.Entered.{AreAt, AreAtFirstChild, AreTablesOf, FindsBreak, IsAtFirstChild, path_number}
use Rattle.xg_sets.specs.Movers.{GoesBackTo, HasMoverAround, no_mover, sequences_after, step_of}
use Rattle.xg_sets.specs.Walked.{Enters, HasEntered, HasLeft, IsBefore, Leaves, MayComeNext, MayEnter, MayLeave}
use Rattle.xg_sets.proofs.ShownLemmas.{no_sets, tables_start}
use Rattle.xg_tree.proofs.BelowLemmas.{KeepsPlaces, walked}
use Rattle.xg_tree.proofs.StoppedLemmas.{OrStopped, may_step, stepped}
use Rattle.xg_tree.proofs.VisitorLemmas.{RunsTo}

one_after : (kind : Kind) (next : Sequences)
    → (sequences_after kind next).one ≡ next.one + cond (is_same_kind One kind) 1 0
one_after Chance next = omega arith
one_after One next = refl
one_after Two next = omega arith
one_after Leaf next = omega arith

two_after : (kind : Kind) (next : Sequences)
    → (sequences_after kind next).two ≡ next.two + cond (is_same_kind Two kind) 1 0
two_after Chance next = omega arith
two_after One next = omega arith
two_after Two next = refl
two_after Leaf next = omega arith

step_one : (kind : Kind) → (step_of kind).one ≤ 1
step_one Chance = omega arith
step_one One = omega arith
step_one Two = omega arith
step_one Leaf = omega arith

step_two : (kind : Kind) → (step_of kind).two ≤ 1
step_two Chance = omega arith
step_two One = omega arith
step_two Two = omega arith
step_two Leaf = omega arith

module _ (tree : Forest) (game : IsGameTree tree) where
  abbrev all : List Visit
  all = visits tree

  -- both players' sequences on a path
  abbrev sequences_on : List Move → Sequences
  sequences_on path = record { one = path_number One tree path; two = path_number Two tree path }

  -- a node of this kind, with its next child at this action
  abbrev mover_at : Kind → (ℕ → List Move) → ℕ → Mover
  mover_at kind above action = record { next = sequences_on (above action); step = step_of kind }

  -- a place in the tree: the trees at the actions of a node, from one on, and then later nodes
  record Place : Type 0 where
    above : ℕ → List Move
    action : ℕ
    later : List Visit
    kind : Kind

  abbrev around : Place → Mover
  around place = mover_at place.kind place.above place.action

  -- these trees and later nodes come behind the first n nodes; the sequences at the node's children follow one another
  record AreNext (n : ℕ) (place : Place) (trees : Forest) : Type 0 where
    visits_are : drop n all ≡ visits_from place.above place.action trees ++ place.later
    from_one : 1 ≤ place.action
    goes_on : (a : ℕ) → 1 ≤ a
        → sequences_after place.kind (sequences_on (place.above a)) ≡ sequences_on (place.above (a + 1))

  record GoesOn (n : ℕ) (innermost : Mover) (outer : List Mover) (building : Building) : Type 0 where
    tables : AreTablesOf tree n building.tables.one building.tables.two building.tables.next_nodes
    innermost_is : building.innermost ≡ innermost
    outer_is : building.outer ≡ outer

  abbrev OrFault : Option RecallFault → Type 0 → Type 0
  OrFault = OrStopped (FindsBreak tree)

  -- the visitor noted the first n nodes and stands below these, or has a fault
  record Stands (n : ℕ) (innermost : Mover) (outer : List Mover) (visitor : SetVisitor) : Type 0 where
    tree_is : visitor.building.tree.now ≡ tree
    stands : OrFault visitor.fault (GoesOn n innermost outer visitor.building)

  -- the number of the kind's sequence at a first child
  first_number : (kind : Kind) (node : Node) (path : List Move) (s : ℕ)
      → IsAtFirstChild tree kind (record { path = path; node = node }) s
      → s ≡ path_number kind tree (record { node = node; action = 1 } ∷ path)
  first_number kind node path s starts =
      elim (is_same_kind kind node.kind) as (λ b. is_same_kind kind node.kind ≡ b →
      s ≡ sequence_number (set_sizes kind tree) (cond b (record { set = node.set; action = 1 } ∷ own_choices kind path) (own_choices kind path))) [
        | true ↦ λ same. let first : s ≡ first_sequence (set_sizes kind tree) node.set = starts.own same in omega arith
        | false ↦ λ differs. starts.other differs
      ] refl

  -- and at the child after another
  next_number : (kind : Kind) (node : Node) (path : List Move) (a : ℕ) → 1 ≤ a
      →
      path_number kind tree (record { node = node; action = a } ∷ path) + cond (is_same_kind kind node.kind) 1 0
      ≡ path_number kind tree (record { node = node; action = a + 1 } ∷ path)
  next_number kind node path a some =
      elim (is_same_kind kind node.kind) as (λ b.
      sequence_number (set_sizes kind tree) (cond b (record { set = node.set; action = a } ∷ own_choices kind path) (own_choices kind path)) + cond b 1 0
      ≡ sequence_number (set_sizes kind tree) (cond b (record { set = node.set; action = a + 1 } ∷ own_choices kind path) (own_choices kind path))) [
        | true ↦ omega arith
        | false ↦ omega arith
      ]

  sequences_follow : (node : Node) (path : List Move) (a : ℕ) → 1 ≤ a
      →
      sequences_after node.kind (sequences_on (record { node = node; action = a } ∷ path)) ≡ sequences_on (record { node = node; action = a + 1 } ∷ path)
  sequences_follow node path a some =
      let at : Sequences = sequences_on (record { node = node; action = a } ∷ path) in
      let one : (sequences_after node.kind at).one ≡ path_number One tree (record { node = node; action = a + 1 } ∷ path) = one_after node.kind at
      ∙ next_number One node path a some in
      let two : (sequences_after node.kind at).two ≡ path_number Two tree (record { node = node; action = a + 1 } ∷ path) = two_after node.kind at
      ∙ next_number Two node path a some in
      λ i. record { one = one i; two = two i }

  abbrev place_below : Place → Node → Forest → Place
  place_below place x beside = record {
    above = paths_below x (place.above place.action);
    action = 1;
    later = visits_from place.above (place.action + 1) beside ++ place.later;
    kind = x.kind;
  }

  abbrev place_beside : Place → Node → Forest → Place
  place_beside place x beside = record { above = place.above; action = place.action + 1; later = place.later; kind = place.kind }

  module _ (n : ℕ) (place : Place) (x : Node) (below beside : Forest) (next : AreNext n place (grown x below beside)) where
    abbrev above : ℕ → List Move
    above = place.above

    abbrev action : ℕ
    action = place.action

    abbrev here : Visit
    here = record { path = above action; node = x }

    stands_here : StandsBefore tree n above action x below beside place.later
    stands_here = stands_before tree game n above action x below beside place.later next.visits_are

    there : n < node_count tree
    there = stands_here.there

    abbrev v : Visit
    v = visit_after tree n

    first : v ≡ here
    first = stands_here.first

    visit_is : visit_after tree (n + 1 - 1) ≡ here
    visit_is = let index : n + 1 - 1 ≡ n = omega arith in ap (visit_after tree) index ∙ first

    small : (kind : Kind) → is_leaf_kind kind ≡ false → path_number kind tree (above action) < 1048576
    small kind inner =
        let range = each_sequence_is_in_range tree game kind inner n no_visit stands_here.is_next.there in
        let few = sequences_are_few tree game kind inner in
        let below : sequence_at kind tree v < 1 + sum (set_sizes kind tree) = range.below in
        let few_sequences : 1 + sum (set_sizes kind tree) ≤ node_count tree = few.few_sequences in
        let limit : node_count tree ≤ 1048576 = game.limit in
        subst (λ w. sequence_at kind tree w < 1048576) first (omega arith)

    -- the trees below the first node, and those beside it
    below_next : AreNext (n + 1) (place_below place x beside) below
    below_next = record { visits_are = stands_here.under; from_one = omega arith; goes_on = sequences_follow x (above action) }

    beside_next : AreNext (n + 1 + node_count below) (place_beside place x beside) beside
    beside_next = record { visits_are = stands_here.aside; from_one = omega arith; goes_on = next.goes_on }

    module _ (outer : List Mover) (building : Building) (same : building.tree.now ≡ tree)
        (on : GoesOn n (around place) outer building) where
      tables_before : AreTablesOf tree (n + 1 - 1) building.tables.one building.tables.two building.tables.next_nodes
      tables_before =
          let index : n ≡ n + 1 - 1 = omega arith in
          subst (λ m. AreTablesOf tree m building.tables.one building.tables.two building.tables.next_nodes) index on.tables

      are_at : AreAt tree (visit_after tree (n + 1 - 1)).path building.innermost.next
      are_at = record {
        one = ap (λ (m : Mover). m.next.one) on.innermost_is ∙ sym (ap (λ (w : Visit). path_number One tree w.path) visit_is);
        two = ap (λ (m : Mover). m.next.two) on.innermost_is ∙ sym (ap (λ (w : Visit). path_number Two tree w.path) visit_is);
      }

      may_come_next : MayComeNext building.tree.now (n + 1) building
      may_come_next =
          let known : MayComeNext tree (n + 1) building = record {
            rules = game;
            from_one = omega arith;
            there = omega (arith, there);
            tables = tables_before;
            at = are_at;
          } in
          subst (λ t. MayComeNext t (n + 1) building) (sym same) known

      goes_below : (new : Building) → HasEntered building.tree.now (n + 1) x building new
          → GoesOn (n + 1) (around (place_below place x beside)) (around place ∷ outer) new
      goes_below new is =
          let entered : HasEntered tree (n + 1) x building new = subst (λ t. HasEntered t (n + 1) x building new) same is in
          let below_here : AreAtFirstChild tree here new.innermost.next = subst (λ w. AreAtFirstChild tree w new.innermost.next) visit_is entered.below in
          let one = first_number One x (above action) new.innermost.next.one below_here.one in
          let two = first_number Two x (above action) new.innermost.next.two below_here.two in
          record {
            tables = entered.tables;
            innermost_is = λ i. record { next = record { one = one i; two = two i }; step = entered.step i };
            outer_is = entered.outer ∙ (λ i. on.innermost_is i ∷ on.outer_is i);
          }

    may_enter_first : (outer : List Mover) (visitor : SetVisitor)
        → Stands n (around place) outer visitor → MayEnter visitor (n + 1) x
    may_enter_first outer visitor s = may_step (FindsBreak tree) visitor.fault s.stands (may_come_next outer visitor.building s.tree_is)

    first_entered : (outer : List Mover) (old new : SetVisitor) → Stands n (around place) outer old
        → Enters old (n + 1) x new → Stands (n + 1) (around (place_below place x beside)) (around place ∷ outer) new
    first_entered outer old new s enters = record {
      tree_is = enters.0 ∙ s.tree_is;
      stands = stepped (FindsBreak tree) old.fault new.fault s.stands enters.1
          (λ fault on finds. subst (λ t. FindsBreak t fault) s.tree_is finds)
          (λ on. goes_below outer old.building s.tree_is on new.building);
    }

    -- back from below the first node
    goes_back : (m : ℕ) (inner : Mover) (outer : List Mover) (old new : Building)
        → GoesOn m inner (around place ∷ outer) old → HasLeft old new
        → GoesOn m (around (place_beside place x beside)) outer new
    goes_back m inner outer old new on left =
        let back = subst (λ around. GoesBackTo around new.innermost new.outer) on.outer_is left.back in
        let follow = next.goes_on action next.from_one in
        record {
          tables = subst (λ (t : FoundTables). AreTablesOf tree m t.one t.two t.next_nodes) (sym left.tables) on.tables;
          innermost_is = back.0 ∙ (λ i. record { next = follow i; step = step_of place.kind });
          outer_is = back.1;
        }

    room_around : (outer : List Mover) → HasMoverAround (around place ∷ outer)
    room_around outer =
        let one : path_number One tree (above action) < 1048576 = small One refl in
        let two : path_number Two tree (above action) < 1048576 = small Two refl in
        (omega (arith, one, step_one place.kind), omega (arith, two, step_two place.kind))

    may_leave_first : (m : ℕ) (inner : Mover) (outer : List Mover) (visitor : SetVisitor)
        → Stands m inner (around place ∷ outer) visitor → MayLeave visitor (n + 1)
    may_leave_first m inner outer visitor s =
        may_step (FindsBreak tree) visitor.fault s.stands (λ on. subst HasMoverAround (sym on.outer_is) (room_around outer))

    first_left : (m : ℕ) (inner : Mover) (outer : List Mover) (old new : SetVisitor)
        → Stands m inner (around place ∷ outer) old → Leaves old (n + 1) new
        → Stands m (around (place_beside place x beside)) outer new
    first_left m inner outer old new s leaves = record {
      tree_is = leaves.0 ∙ s.tree_is;
      stands = stepped (FindsBreak tree) old.fault new.fault s.stands leaves.1 (λ fault on none. absurd none)
          (λ on. goes_back m inner outer old.building new.building on);
    }

  -- how a visitor ends
  abbrev Ends : SetVisitor → Type 0
  Ends visitor =
      OrFault visitor.fault (AreTablesOf tree (node_count tree) visitor.building.tables.one visitor.building.tables.two visitor.building.tables.next_nodes)

  abbrev Runs : List Event → SetVisitor → Type 0
  Runs = RunsTo MayEnter Enters MayLeave Leaves Ends

  keeps : KeepsPlaces MayEnter Enters MayLeave Leaves AreNext around Stands place_below place_beside
  keeps = record {
    below_next = below_next;
    beside_next = beside_next;
    may_enter_first = may_enter_first;
    first_entered = first_entered;
    may_leave_first = may_leave_first;
    first_left = first_left;
  }

  abbrev first_place : Place
  first_place = record { above = λ _. []; action = 1; later = []; kind = Chance }

  whole_next : AreNext 0 first_place tree
  whole_next = record { visits_are = sym (append-nil all); from_one = omega arith; goes_on = λ a some. refl }

  stands_first : (visitor : SetVisitor) → IsBefore tree visitor → Stands 0 no_mover [] visitor
  stands_first visitor before = record {
    tree_is = before.tree_is;
    stands = subst (λ o. OrFault o (GoesOn 0 no_mover [] visitor.building)) (sym before.going) (record {
      tables = subst (λ one. AreTablesOf tree 0 one visitor.building.tables.two visitor.building.tables.next_nodes) (sym before.table_one)
          (subst (λ two. AreTablesOf tree 0 no_sets two visitor.building.tables.next_nodes) (sym before.table_two)
          (subst (λ numbers. AreTablesOf tree 0 no_sets no_sets numbers) (sym before.next_are) (tables_start tree)));
      innermost_is = before.innermost;
      outer_is = before.outer;
    });
  }

  ended : (n : ℕ) (innermost : Mover) (outer : List Mover) (visitor : SetVisitor) → n ≡ node_count tree
      → Stands n innermost outer visitor → Ends visitor
  ended n innermost outer visitor last s = by_fault visitor.fault s.stands
    where
      by_fault : (fault : Option RecallFault) → OrFault fault (GoesOn n innermost outer visitor.building)
          → OrFault fault (AreTablesOf tree (node_count tree) visitor.building.tables.one visitor.building.tables.two visitor.building.tables.next_nodes)
      by_fault (Some fault) stands = stands
      by_fault None stands = subst (λ m. AreTablesOf tree m visitor.building.tables.one visitor.building.tables.two visitor.building.tables.next_nodes) last
          stands.tables

  -- the walk through the whole tree
  pub whole_walk : (visitor : SetVisitor) → IsBefore tree visitor → Runs (events_from 1 tree) visitor
  whole_walk visitor before =
      walked MayEnter Enters MayLeave Leaves Ends keeps tree first_place whole_next
      (λ inner w s. ended (0 + node_count tree) inner [] w (omega arith) s)
      visitor (stands_first visitor before)

  -- a visitor that was led through the whole tree
  module _ (first last : SetVisitor) (before : IsBefore tree first)
      (leads : Leads MayEnter Enters MayLeave Leaves (events_from 1 tree) first last) where
    ends : Ends last
    ends = (whole_walk first before).ends last leads

    -- its fault tells the first break
    pub ends_broken : (fault : RecallFault) → last.fault ≡ Some fault → FindsBreak tree fault
    ends_broken fault is =
        subst (λ o. OrFault o (AreTablesOf tree (node_count tree) last.building.tables.one last.building.tables.two last.building.tables.next_nodes)) is ends

    -- without one its tables are those of all nodes
    pub ends_noted : last.fault ≡ None
        → AreTablesOf tree (node_count tree) last.building.tables.one last.building.tables.two last.building.tables.next_nodes
    ends_noted is =
        subst (λ o. OrFault o (AreTablesOf tree (node_count tree) last.building.tables.one last.building.tables.two last.building.tables.next_nodes)) is ends
