-- A walk through the trees at a node's actions, below the nodes around it, finds the first fault among their nodes, or
-- what their leaves are expected to pay.
use Rattle.std.proofs.Common.{◌≡◌, ℕ, suc, ◌+◌, ◌-◌, ◌<◌, ◌≤◌, Bool, true, false, cond, List, [], ◌∷◌, ◌++◌, length, take, drop, map, refl, ap, sym, subst, ◌∙◌}
use Rattle.std.proofs.Common.{arith, append-nil, Some, None, slice_get}
use Rattle.std.specs.Prelude.{Option, option_map, unwrap_or}
use Rattle.std.proofs.lemmas.Option.{slice_get-get_or, slice_get-map}
use Rattle.def_tree.specs.declared.Kind.TheVariants.{Chance}
use Rattle.def_tree.specs.declared.Node.{Node}
use Rattle.def_tree.specs.Events.{Event, events_from}
use Rattle.def_tree.specs.Tree.{Forest, grown, HasItsChildren, node_count, prefix, tree_count}
use Rattle.def_tree.specs.Rules.{Fits, IsGameTree, is_same_kind}
use Rattle.def_tree.proofs.Sets.{children-le, is_same_kind-true}
use Rattle.def_fraction.specs.Fraction.{most, product_of, sum_of, zero_fraction}
use Rattle.def_file.specs.Content.{GameFile}
use Rattle.def_file.specs.Faults.{set_at}
use Rattle.def_file.specs.Game.{IsWholeGame}
use Rattle.def_game_paths.specs.Coming.{no_visit, visit_after}
use Rattle.def_game_paths.specs.Paths.{Move, Visit, visits, visits_from}
use Rattle.def_game_paths.proofs.Coming.{IsNext}
use Rattle.def_game_paths.proofs.Standing.{StandsBefore, paths_below, stands_before}
use Rattle.def_game_paths.proofs.Visits.{map-visits_from}
use Rattle.def_game_scale.specs.Faults.{GameFault, Scale, found_by, node_fault}
use Rattle.def_game_scale.specs.Scale.{expected_at, unit_so_far}
use Rattle.def_game_scale.specs.Tables.{AreFractions, Tables, path_payoff, payoffs_of, probability, reach}
use Rattle.def_game_scale.proofs.Running.{running}
use Rattle.def_game_numbers.specs.Numbers.{tables_of}
use Rattle.xg_game.specs.declared.fault.Refused.{Refused}
use Rattle.xg_scale.specs.declared.leaf.Expected.{Expected}
use Rattle.xg_scale.specs.declared.nodes.PathVisitor.{PathVisitor}
use Rattle.xg_scale.specs.declared.nodes.PathWalk.{PathWalk}
use Rattle.xg_scale.specs.declared.path.NodeOnPath.{NodeOnPath}
use Rattle.xg_scale.specs.FaultOfFile.{RefusesBy}
use Rattle.xg_scale.specs.Leaf.{judged_node, known_with, unit_with, with_expected, with_payoff}
use Rattle.xg_scale.specs.Range.{IsRangeOf}
use Rattle.xg_scale.specs.OnPath.{GoesBackTo, HasNodeAround, at_action, chance_set_of, entered_node, empty_path}
use Rattle.xg_scale.specs.Walked.{Enters, HasEntered, HasLeft, IsBefore, IsExpectedOf, Leaves, MayCome, MayComeNext, MayEnter, MayLeave, all_fit, known_sum}
use Rattle.xg_scale.specs.Walked.{next_fault, numbers_at_next, numbers_below, numbers_on_path, payoffs_at, reach_below}
use Rattle.xg_scale.proofs.FoundLemmas.{found_later, found_none, refuses_here}
use Rattle.xg_scale.proofs.GameLemmas.{goes_with, in_chance_set, tree_rules}
use Rattle.xg_scale.proofs.JudgeLemmas.{expected_all, expected_with, known_all, known_more, node_judged, payoffs_all, payoffs_with, unit_all, unit_from_one}
use Rattle.xg_scale.proofs.JudgeLemmas.{unit_more}
use Rattle.xg_tree.proofs.BelowLemmas.{KeepsPlaces, walked}
use Rattle.xg_tree.proofs.StoppedLemmas.{OrStopped, may_step, stepped}
use Rattle.xg_tree.proofs.VisitorLemmas.{RunsTo}

module _ (game : GameFile) (lowest : AreFractions (tables_of game)) (whole : IsWholeGame game) where
  abbrev tables : Tables
  tables = tables_of game

  abbrev all : List Visit
  all = visits game.tree

  abbrev found : Option GameFault
  found = found_by (node_fault tables) [] all

  rules : IsGameTree game.tree
  rules = tree_rules game whole

  -- a place in the game: the trees at the actions of a node, from one on, and then later nodes
  record Place : Type 0 where
    above : ℕ → List Move
    action : ℕ
    later : List Visit
    parent : NodeOnPath

  abbrev around : Place → NodeOnPath
  around place = at_action place.parent place.action

  -- these trees and later nodes come behind the first n nodes; the node has the numbers of the path to each of its children
  record AreNext (n : ℕ) (place : Place) (trees : Forest) : Type 0 where
    visits_are : drop n all ≡ visits_from place.above place.action trees ++ place.later
    children : HasItsChildren trees
    from_one : 1 ≤ place.action
    room : place.action + tree_count trees ≤ 1025
    set : (set : ℕ) → place.parent.chance_set ≡ Some set → (1 ≤ set) × (set ≤ length game.sets.chance)
        × (place.action + tree_count trees ≡ length (set_at game.sets.chance (set - 1)).actions + 1)
    reach_is : (a : ℕ) → reach tables (place.above a) ≡ reach_below tables place.parent.chance_set a place.parent.numbers.reach
    one : (a : ℕ) → path_payoff (λ payoffs. payoffs.one) tables (place.above a) ≡ place.parent.numbers.one
    two : (a : ℕ) → path_payoff (λ payoffs. payoffs.two) tables (place.above a) ≡ place.parent.numbers.two

  -- the first n nodes have no fault
  record HasPassed (n : ℕ) (expected : Expected) : Type 0 where
    rest : found ≡ found_by (node_fault tables) (take n all) (drop n all)
    sum : expected.sum ≡ known_sum tables (take n all)
    unit : expected.unit ≡ unit_so_far tables (take n all)
    limit : expected.unit ≤ most
    fractions : expected.fractions.items ≡ expected_at tables (take n all)
    range : IsRangeOf (payoffs_at tables (take n all)) expected.range

  record GoesOn (n : ℕ) (innermost : NodeOnPath) (outer : List NodeOnPath) (walk : PathWalk) : Type 0 where
    passed : HasPassed n walk.expected
    innermost_is : walk.path.innermost ≡ innermost
    outer_is : walk.path.outer ≡ outer

  abbrev OrRefused : Option Refused → Type 0 → Type 0
  OrRefused = OrStopped (RefusesBy found)

  -- the visitor passed the first n nodes and stands below these, or was refused to go on
  record Stands (n : ℕ) (innermost : NodeOnPath) (outer : List NodeOnPath) (visitor : PathVisitor) : Type 0 where
    game_is : visitor.walk.game.now ≡ game
    stands : OrRefused visitor.refused (GoesOn n innermost outer visitor.walk)

  -- the reach below a node
  reach_from : (node : Node) (path : List Move) (a : ℕ) →
      reach tables (record { node = node; action = a } ∷ path) ≡ reach_below tables (chance_set_of node) a (reach tables path)
  reach_from node path a =
      elim (is_same_kind Chance node.kind) as (λ b. cond b (product_of (reach tables path) (probability tables node.set a)) (reach tables path)
      ≡ reach_below tables (cond b (Some node.set) None) a (reach tables path)) [
        | true ↦ refl
        | false ↦ refl
      ]

  abbrev child : Place → Node → NodeOnPath
  child place x = entered_node x (numbers_on_path tables (record { path = place.above place.action; node = x }))

  abbrev place_below : Place → Node → Forest → Place
  place_below place x beside = record {
    above = paths_below x (place.above place.action);
    action = 1;
    later = visits_from place.above (place.action + 1) beside ++ place.later;
    parent = child place x;
  }

  abbrev place_beside : Place → Node → Forest → Place
  place_beside place x beside = record { above = place.above; action = place.action + 1; later = place.later; parent = place.parent }

  module _ (n : ℕ) (place : Place) (x : Node) (below beside : Forest) (next : AreNext n place (grown x below beside)) where
    abbrev above : ℕ → List Move
    above = place.above

    abbrev action : ℕ
    action = place.action

    abbrev parent : NodeOnPath
    parent = place.parent

    abbrev here : Visit
    here = record { path = above action; node = x }

    stands_here : StandsBefore game.tree n above action x below beside place.later
    stands_here = stands_before game.tree rules n above action x below beside place.later next.visits_are

    there : n < node_count game.tree
    there = stands_here.there

    abbrev v : Visit
    v = visit_after game.tree n

    is_next : IsNext game.tree n v
    is_next = stands_here.is_next

    first : v ≡ here
    first = stands_here.first

    read : slice_get (prefix game.tree) (n + 1 - 1) ≡ Some x
    read =
        let index : n + 1 - 1 ≡ n = omega arith in
        (λ i. slice_get (sym (map-visits_from (λ _. []) 1 game.tree) i) (index i))
        ∙ slice_get-map (λ (w : Visit). w.node) all n
        ∙ ap (option_map (λ (w : Visit). w.node)) (slice_get-get_or all n no_visit is_next.there)
        ∙ ap (λ (w : Visit). Some w.node) first

    few_children : x.children ≤ 1024
    few_children = children-le (map (λ (w : Visit). w.node) (take n all)) x
        (subst (Fits (map (λ (w : Visit). w.node) (take n all))) (ap (λ (w : Visit). w.node) first) is_next.fits)

    chance_kind : (set : ℕ) (b : Bool) → is_same_kind Chance x.kind ≡ b → cond b (Some x.set) None ≡ Some set
        → (x.kind ≡ Chance) × (x.set ≡ set)
    chance_kind set true chance e = (is_same_kind-true Chance x.kind chance, cc)
    chance_kind set false other e = cc

    below_set : (set : ℕ) → chance_set_of x ≡ Some set → (1 ≤ set) × (set ≤ length game.sets.chance)
        × (1 + tree_count below ≡ length (set_at game.sets.chance (set - 1)).actions + 1)
    below_set set e =
        let is = chance_kind set (is_same_kind Chance x.kind) refl e in
        let known = in_chance_set game whole n x read is.0 in
        let InTable : ℕ → Type 0 = λ s. (1 ≤ s) × (s ≤ length game.sets.chance)
        × (1 + tree_count below ≡ length (set_at game.sets.chance (s - 1)).actions + 1) in
        subst InTable is.1 (known.from_one, known.there, omega (arith, known.actions, next.children.0))

    -- the trees below the first node, and those beside it
    below_next : AreNext (n + 1) (place_below place x beside) below
    below_next = record {
      visits_are = stands_here.under;
      children = next.children.1;
      from_one = omega arith;
      room = omega (arith, few_children, next.children.0);
      set = below_set;
      reach_is = λ a. reach_from x (above action) a;
      one = λ a. refl;
      two = λ a. refl;
    }

    beside_next : AreNext (n + 1 + node_count below) (place_beside place x beside) beside
    beside_next =
        let trees : action + suc (tree_count beside) ≤ 1025 = next.room in
        let on : action + 1 + tree_count beside ≡ action + suc (tree_count beside) = omega arith in
        record {
          visits_are = stands_here.aside;
          children = next.children.2;
          from_one = omega arith;
          room = omega (arith, on, trees);
          set = λ set e. let known = next.set set e in (known.0, known.1, on ∙ known.2);
          reach_is = next.reach_is;
          one = next.one;
          two = next.two;
        }

    may_come : MayCome game (around place)
    may_come set e =
        let known = next.set set e in
        let last : action + suc (tree_count beside) ≡ length (set_at game.sets.chance (set - 1)).actions + 1 = known.2 in
        (known.0, known.1, next.from_one, omega (arith, last))

    numbers_here : numbers_below tables (around place) x ≡ numbers_on_path tables here
    numbers_here = λ i. record {
      reach = sym (next.reach_is action) i;
      one = sum_of (sym (next.one action) i) (payoffs_of tables x.outcome).one;
      two = sum_of (sym (next.two action) i) (payoffs_of tables x.outcome).two;
    }

    module _ (outer : List NodeOnPath) (walk : PathWalk) (same : walk.game.now ≡ game)
        (on : GoesOn n (around place) outer walk) where
      numbers_are : numbers_at_next walk x ≡ numbers_on_path tables here
      numbers_are = (λ i. numbers_below (tables_of (same i)) (on.innermost_is i) x) ∙ numbers_here

      numbers_at_visit : numbers_at_next walk x ≡ numbers_on_path tables v
      numbers_at_visit = numbers_are ∙ ap (numbers_on_path tables) (sym first)

      fault_is : node_fault tables (take n all) v ≡ next_fault walk (n + 1) x
      fault_is =
          node_judged tables lowest game.tree rules n there x read
          ∙ sym ((λ i. cond (all_fit (numbers_at_visit i)) (judged_node (n + 1) x (on.passed.sum i) (on.passed.unit i) (numbers_at_visit i))
          (Some (Scale (n + 1)))))

      may_come_next : MayComeNext walk x
      may_come_next = record {
        action = subst (λ g. MayCome g walk.path.innermost) (sym same) (subst (MayCome game) (sym on.innermost_is) may_come);
        outcome = subst (λ (g : GameFile). x.outcome ≤ length g.outcomes) (sym same) (goes_with game whole n x read).outcome;
        from_one = omega (arith, on.passed.unit, unit_from_one tables lowest (take n all));
        limit = on.passed.limit;
      }

      refused_here : (r : Refused) → RefusesBy (next_fault walk (n + 1) x) r → RefusesBy found r
      refused_here r refuses =
          subst (λ o. RefusesBy o r) (sym on.passed.rest) (refuses_here game.tree (node_fault tables) n v is_next (next_fault walk (n + 1) x) r fault_is
          refuses)

      goes_below : (new : PathWalk) → HasEntered walk (n + 1) x new
          → GoesOn (n + 1) (child place x) (around place ∷ outer) new
      goes_below new entered = record {
        passed = record {
          rest = on.passed.rest ∙ found_later game.tree (node_fault tables) n v is_next (fault_is ∙ entered.passes);
          sum = entered.sum ∙ (λ i. known_with x (on.passed.sum i) (numbers_at_visit i)) ∙ sym (known_more tables lowest game.tree rules n there x read);
          unit = entered.unit ∙ (λ i. unit_with x (on.passed.sum i) (on.passed.unit i) (numbers_at_visit i))
              ∙ sym (unit_more tables lowest game.tree rules n there x read);
          limit = entered.limit;
          fractions = entered.fractions ∙ (λ i. on.passed.fractions i ++ with_expected x (numbers_at_visit i))
              ∙ sym (expected_with tables lowest game.tree rules n there x read);
          range = subst (λ payoffs. IsRangeOf payoffs new.expected.range)
              (ap (λ numbers. payoffs_at tables (take n all) ++ with_payoff x numbers) numbers_at_visit
              ∙ sym (payoffs_with tables lowest game.tree rules n there x read))
              (entered.range (payoffs_at tables (take n all)) on.passed.range);
        };
        innermost_is = entered.innermost ∙ ap (entered_node x) numbers_are;
        outer_is = entered.outer ∙ (λ i. on.innermost_is i ∷ on.outer_is i);
      }

    may_enter_first : (outer : List NodeOnPath) (visitor : PathVisitor)
        → Stands n (around place) outer visitor → MayEnter visitor (n + 1) x
    may_enter_first outer visitor s = may_step (RefusesBy found) visitor.refused s.stands (may_come_next outer visitor.walk s.game_is)

    first_entered : (outer : List NodeOnPath) (old new : PathVisitor) → Stands n (around place) outer old
        → Enters old (n + 1) x new → Stands (n + 1) (child place x) (around place ∷ outer) new
    first_entered outer old new s enters = record {
      game_is = enters.0 ∙ s.game_is;
      stands = stepped (RefusesBy found) old.refused new.refused s.stands enters.1
          (λ r on. refused_here outer old.walk s.game_is on r) (λ on. goes_below outer old.walk s.game_is on new.walk);
    }

    -- back from below the first node
    goes_back : (m : ℕ) (inner : NodeOnPath) (outer : List NodeOnPath) (old new : PathWalk)
        → GoesOn m inner (around place ∷ outer) old → HasLeft old new
        → GoesOn m (around (place_beside place x beside)) outer new
    goes_back m inner outer old new on left =
        let back = subst (λ around. GoesBackTo around new.path.innermost new.path.outer) on.outer_is left.back in
        record { passed = subst (HasPassed m) (sym left.expected) on.passed; innermost_is = back.0; outer_is = back.1 }

    may_leave_first : (m : ℕ) (inner : NodeOnPath) (outer : List NodeOnPath) (visitor : PathVisitor)
        → Stands m inner (around place ∷ outer) visitor → MayLeave visitor (n + 1)
    may_leave_first m inner outer visitor s =
        let room : action + suc (tree_count beside) ≤ 1025 = next.room in
        may_step (RefusesBy found) visitor.refused s.stands (λ on. subst HasNodeAround (sym on.outer_is) (omega (arith, room)))

    first_left : (m : ℕ) (inner : NodeOnPath) (outer : List NodeOnPath) (old new : PathVisitor)
        → Stands m inner (around place ∷ outer) old → Leaves old (n + 1) new
        → Stands m (around (place_beside place x beside)) outer new
    first_left m inner outer old new s leaves = record {
      game_is = leaves.0 ∙ s.game_is;
      stands = stepped (RefusesBy found) old.refused new.refused s.stands leaves.1 (λ r on none. absurd none)
          (λ on. goes_back m inner outer old.walk new.walk on);
    }

  -- how a visitor ends
  abbrev Ends : PathVisitor → Type 0
  Ends visitor = OrRefused visitor.refused (IsExpectedOf tables game.tree visitor.walk.expected)

  abbrev Runs : List Event → PathVisitor → Type 0
  Runs = RunsTo MayEnter Enters MayLeave Leaves Ends

  keeps : KeepsPlaces MayEnter Enters MayLeave Leaves AreNext around Stands place_below place_beside
  keeps = record {
    below_next = below_next;
    beside_next = beside_next;
    may_enter_first = may_enter_first;
    first_entered = first_entered;
    may_leave_first = may_leave_first;
    first_left = first_left;
  }

  abbrev first_place : Place
  first_place = record { above = λ _. []; action = 1; later = []; parent = empty_path }

  whole_next : AreNext 0 first_place game.tree
  whole_next = record {
    visits_are = sym (append-nil all);
    children = whole.tree.children;
    from_one = omega arith;
    room = omega (arith, whole.tree.one);
    set = λ set is. cc is;
    reach_is = λ a. refl;
    one = λ a. refl;
    two = λ a. refl;
  }

  stands_first : (visitor : PathVisitor) → IsBefore game visitor → Stands 0 empty_path [] visitor
  stands_first visitor before = record {
    game_is = before.game_is;
    stands = subst (λ o. OrRefused o (GoesOn 0 empty_path [] visitor.walk)) (sym before.going) (record {
      passed = record {
        rest = refl;
        sum = before.sum;
        unit = before.unit ∙ sym (running tables lowest).start_unit;
        limit = omega (arith, before.unit);
        fractions = before.fractions;
        range = subst (IsRangeOf []) (sym before.range) refl;
      };
      innermost_is = before.innermost;
      outer_is = before.outer;
    });
  }

  all_passed : (n : ℕ) (expected : Expected) → n ≡ node_count game.tree → HasPassed n expected
      → IsExpectedOf tables game.tree expected
  all_passed n expected last passed = record {
    passes = passed.rest ∙ found_none game.tree (node_fault tables) n last;
    sum = ap (λ o. unwrap_or o zero_fraction) passed.sum ∙ known_all tables game.tree n last;
    unit = passed.unit ∙ unit_all tables game.tree n last;
    limit = passed.limit;
    fractions = passed.fractions ∙ expected_all tables game.tree n last;
    range = subst (λ payoffs. IsRangeOf payoffs expected.range) (payoffs_all tables game.tree n last) passed.range;
  }

  ended : (n : ℕ) (innermost : NodeOnPath) (outer : List NodeOnPath) (walk : PathWalk) (refused : Option Refused)
      → n ≡ node_count game.tree → OrRefused refused (GoesOn n innermost outer walk)
      → OrRefused refused (IsExpectedOf tables game.tree walk.expected)
  ended n innermost outer walk (Some r) last stands = stands
  ended n innermost outer walk None last stands = all_passed n walk.expected last stands.passed

  -- the walk through the whole tree
  pub whole_walk : (visitor : PathVisitor) → IsBefore game visitor → Runs (events_from 1 game.tree) visitor
  whole_walk visitor before =
      walked MayEnter Enters MayLeave Leaves Ends keeps game.tree first_place whole_next
      (λ inner w s. ended (0 + node_count game.tree) inner [] w.walk w.refused (omega arith) s.stands)
      visitor (stands_first visitor before)

  -- a refusal is by the first fault
  pub ends_refused : (visitor : PathVisitor) (r : Refused) → Ends visitor → visitor.refused ≡ Some r → RefusesBy found r
  ends_refused visitor r ends is = subst (λ o. OrRefused o (IsExpectedOf tables game.tree visitor.walk.expected)) is ends

  -- without one there is none
  pub ends_expected : (visitor : PathVisitor) → Ends visitor → visitor.refused ≡ None
      → IsExpectedOf tables game.tree visitor.walk.expected
  ends_expected visitor ends is = subst (λ o. OrRefused o (IsExpectedOf tables game.tree visitor.walk.expected)) is ends
