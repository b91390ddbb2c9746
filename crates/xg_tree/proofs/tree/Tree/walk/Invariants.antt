use Rattle.std.proofs.Common.{◌+◌, drop}
use Rattle.def_tree.specs.Events.{events}
use Rattle.xg_tree.specs.Visits.{walk_events_from}
use Rattle.xg_tree.proofs.VisitsLemmas.{IsGoing}
use Rattle.xg_tree.proofs.tree.Tree.walk.Given as goal

abbrev pub invariant-loop-at : goal.invariant-loop-at
invariant-loop-at g l =
    IsGoing g.V.Visitor.may_enter g.V.Visitor.enters g.V.Visitor.may_leave g.V.Visitor.leaves (events l.self) l.fn.visitor
    (walk_events_from l.self-inside.links.items (l.at + 1) (drop l.at l.self-inside.nodes.items)) l.visitor
