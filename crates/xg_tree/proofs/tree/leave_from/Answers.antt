use Rattle.std.proofs.Common.{◌<◌, ◌≤◌, length, arith}
use Rattle.xg_tree.specs.Visits.{left_after, leaving}
use Rattle.xg_tree.proofs.VisitsLemmas.{left_before, left_on}
use Rattle.xg_tree.proofs.tree.leave_from.Goals as goal

pub loop-left-preserved : goal.loop-left-preserved
loop-left-preserved g c =
    let there : c.loop-left.left ≤ length c.args.links.now = c.loop-left.invariant.there in
    let before : left_after c.args.links.now c.loop-left.left < c.loop-left.left = left_before c.args.links.now c.loop-left.left c.requires.ordered
    (omega arith) in
    record {
      there = omega (arith, c.left_after-left.ensures);
      going = left_on g.V.Visitor.may_enter g.V.Visitor.enters g.V.Visitor.may_leave g.V.Visitor.leaves (leaving c.args.links.now c.args.k) c.args.visitor.now
          c.args.links.now c.loop-left.left c.left_after-left.result c.loop-left.visitor c.leave.new.self c.requires.ordered (omega arith) there
          c.left_after-left.ensures c.loop-left.invariant.going c.leave.ensures;
    }
