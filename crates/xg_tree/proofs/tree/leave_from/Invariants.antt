use Rattle.std.proofs.Common.{◌≤◌, length}
use Rattle.xg_tree.specs.Visits.{leaving}
use Rattle.xg_tree.proofs.VisitsLemmas.{IsGoing}
use Rattle.xg_tree.proofs.tree.leave_from.Given as goal

abbrev pub invariant-loop-left : goal.invariant-loop-left
invariant-loop-left g l = record {
  there : l.left ≤ length l.links;
  going : IsGoing g.V.Visitor.may_enter g.V.Visitor.enters g.V.Visitor.may_leave g.V.Visitor.leaves (leaving l.links l.k) l.fn.visitor (leaving l.links l.left)
      l.visitor;
}

abbrev pub decreases-loop-left : goal.decreases-loop-left
decreases-loop-left g l = l.left
