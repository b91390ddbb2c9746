-- A visitor that keeps the nodes around where it stands is led through trees, and through those below each of their nodes.
use Rattle.std.proofs.Common.{◌≡◌, ℕ, ◌+◌, List, [], ◌∷◌, ◌++◌, length-append, sym, ap, subst, arith, append-nil, append_assoc}
use Rattle.def_tree.specs.declared.Node.{Node}
use Rattle.def_tree.specs.Events.{Event, Enter, Leave, events_from}
use Rattle.def_tree.specs.Tree.{Forest, bare, grown, node_count, prefix}
use Rattle.xg_tree.proofs.VisitorLemmas.{RunsTo, runs_enter, runs_leave, runs_none}

module _ {V : Type 0} (may_enter : V → ℕ → Node → Type 0) (enters : V → ℕ → Node → V → Type 0)
    (may_leave : V → ℕ → Type 0) (leaves : V → ℕ → V → Type 0) where
  -- trees come next at a place, which has a node around it; the visitor stands below that node and those around it, behind
  -- so many nodes
  pub record KeepsPlaces {Around Place : Type 0} (Next : ℕ → Place → Forest → Type 0) (around : Place → Around)
      (Stands : ℕ → Around → List Around → V → Type 0) (below beside : Place → Node → Forest → Place) : Type 0 where
    pub below_next : (n : ℕ) (place : Place) (x : Node) (under aside : Forest) → Next n place (grown x under aside)
        → Next (n + 1) (below place x aside) under
    pub beside_next : (n : ℕ) (place : Place) (x : Node) (under aside : Forest) → Next n place (grown x under aside)
        → Next (n + 1 + node_count under) (beside place x aside) aside
    pub may_enter_first : (n : ℕ) (place : Place) (x : Node) (under aside : Forest) → Next n place (grown x under aside)
        → (outer : List Around) (v : V) → Stands n (around place) outer v → may_enter v (n + 1) x
    pub first_entered : (n : ℕ) (place : Place) (x : Node) (under aside : Forest) → Next n place (grown x under aside)
        → (outer : List Around) (v w : V) → Stands n (around place) outer v → enters v (n + 1) x w
        → Stands (n + 1) (around (below place x aside)) (around place ∷ outer) w
    pub may_leave_first : (n : ℕ) (place : Place) (x : Node) (under aside : Forest) → Next n place (grown x under aside)
        → (m : ℕ) (inner : Around) (outer : List Around) (v : V) → Stands m inner (around place ∷ outer) v
        → may_leave v (n + 1)
    pub first_left : (n : ℕ) (place : Place) (x : Node) (under aside : Forest) → Next n place (grown x under aside)
        → (m : ℕ) (inner : Around) (outer : List Around) (v w : V) → Stands m inner (around place ∷ outer) v
        → leaves v (n + 1) w → Stands m (around (beside place x aside)) outer w

  module _ (Ends : V → Type 0) where
    abbrev Runs : List Event → V → Type 0
    Runs = RunsTo may_enter enters may_leave leaves Ends

    module _ {Around Place : Type 0} {Next : ℕ → Place → Forest → Type 0} {around : Place → Around}
        {Stands : ℕ → Around → List Around → V → Type 0} {below beside : Place → Node → Forest → Place}
        (keeps : KeepsPlaces Next around Stands below beside) where
      -- what comes next leads behind the trees
      walks : (trees : Forest) (n : ℕ) (place : Place) (outer : List Around) → Next n place trees → (rest : List Event)
          → ((inner : Around) (w : V) → Stands (n + node_count trees) inner outer w → Runs rest w)
          → (v : V) → Stands n (around place) outer v → Runs (events_from (n + 1) trees ++ rest) v
      walks bare n place outer next rest then v stands =
          let nodes : n ≡ n + 0 = omega arith in
          then (around place) v (subst (λ m. Stands m (around place) outer v) nodes stands)
      walks (grown x under aside) n place outer next rest then v stands =
          let m : ℕ = n + 1 + node_count under in
          let number : m + 1 ≡ n + 1 + 1 + node_count under = omega arith in
          let nodes : m + node_count aside ≡ n + node_count (grown x under aside) = omega (arith, length-append (prefix under) (prefix aside)) in
          let last : (inner : Around) (w : V) → Stands (m + node_count aside) inner outer w → Runs rest w =
          λ inner w s. then inner w (subst (λ k. Stands k inner outer w) nodes s) in
          let beyond : List Event = events_from (n + 1 + 1 + node_count under) aside ++ rest in
          let left : (w : V) → Stands m (around (beside place x aside)) outer w → Runs beyond w =
          λ w s. subst (λ k. Runs (events_from k aside ++ rest) w) number
          (walks aside m (beside place x aside) outer (keeps.beside_next n place x under aside next) rest last w s) in
          let back : (inner : Around) (w : V) → Stands m inner (around place ∷ outer) w → Runs (Leave (n + 1) ∷ beyond) w =
          λ inner w s. runs_leave may_enter enters may_leave leaves Ends (n + 1) beyond w
          (keeps.may_leave_first n place x under aside next m inner outer w s)
          (λ u step. left u (keeps.first_left n place x under aside next m inner outer w u s step)) in
          let into : (w : V) → enters v (n + 1) x w → Runs (events_from (n + 1 + 1) under ++ (Leave (n + 1) ∷ beyond)) w =
          λ w step. walks under (n + 1) (below place x aside) (around place ∷ outer) (keeps.below_next n place x under aside next)
          (Leave (n + 1) ∷ beyond) back w (keeps.first_entered n place x under aside next outer v w stands step) in
          subst (λ events. Runs events v)
          (ap (λ events. Enter (n + 1) x ∷ events) (sym (append_assoc (events_from (n + 1 + 1) under)
          (Leave (n + 1) ∷ events_from (n + 1 + 1 + node_count under) aside) rest)))
          (runs_enter may_enter enters may_leave leaves Ends (n + 1) x (events_from (n + 1 + 1) under ++ (Leave (n + 1) ∷ beyond)) v
          (keeps.may_enter_first n place x under aside next outer v stands) into)

      -- a walk through the trees that come first, as the visitor stands before any node
      pub walked : (trees : Forest) (place : Place) → Next 0 place trees
          → ((inner : Around) (w : V) → Stands (0 + node_count trees) inner [] w → Ends w)
          → (v : V) → Stands 0 (around place) [] v → Runs (events_from 1 trees) v
      walked trees place next ends v stands =
          subst (λ events. Runs events v) (append-nil (events_from 1 trees))
          (walks trees 0 place [] next [] (λ inner w s. runs_none may_enter enters may_leave leaves Ends w (ends inner w s)) v stands)
