use Rattle.std.proofs.Common.{length, ap, sym, subst, arith}
use Rattle.def_tree.specs.declared.Kind.TheVariants.{Chance}
use Rattle.def_tree.specs.declared.Node.{Node}
use Rattle.def_tree.specs.Events.{events}
use Rattle.xg_tree.specs.Linked.{ComeAfterParents}
use Rattle.xg_tree.proofs.VisitsLemmas.{kept_in_order, links_as_nodes, visit_accepted, visit_over, walk_begins, walk_over}
use Rattle.xg_tree.proofs.tree.Tree.walk.Goals as goal

abbrev none : Node
none = record { kind = Chance; set = 0; outcome = 0; children = 0 }

pub visit-requires-clause-there : goal.visit-requires-clause-there
visit-requires-clause-there g c =
    omega (
      arith,
      ap length c.deref.ensures.value,
      ap length c.deref-node-items.ensures.value,
      links_as_nodes c.self.inside.nodes.items c.self.inside.links.items c.self.inside.leaves c.self.invariant,
    )

pub visit-requires-clause-ordered : goal.visit-requires-clause-ordered
visit-requires-clause-ordered g c = subst ComeAfterParents (sym c.deref.ensures.value)
    (kept_in_order c.self.inside.nodes.items c.self.inside.links.items c.self.inside.leaves c.self.invariant)

pub visit-requires-clause-accepts : goal.visit-requires-clause-accepts
visit-requires-clause-accepts g c =
    visit_accepted g.V.Visitor.may_enter g.V.Visitor.enters g.V.Visitor.may_leave g.V.Visitor.leaves (events c.args.self.now) c.args.visitor.now
    c.self.inside.nodes.items c.deref-node-items.result.now c.self.inside.links.items c.deref.result.now c.loop-at.at none c.loop-at.visitor
    c.deref-node-items.ensures.value c.deref.ensures.value c.loop-at-test.true c.loop-at.invariant

pub loop-at-init : goal.loop-at-init
loop-at-init g c =
    walk_begins g.V.Visitor.may_enter g.V.Visitor.enters g.V.Visitor.may_leave g.V.Visitor.leaves
    c.self.inside.nodes.items c.self.inside.links.items c.self.inside.leaves c.args.self.now c.args.visitor.now c.self.view_is c.self.invariant c.requires

pub loop-at-preserved : goal.loop-at-preserved
loop-at-preserved g c =
    visit_over g.V.Visitor.may_enter g.V.Visitor.enters g.V.Visitor.may_leave g.V.Visitor.leaves (events c.args.self.now) c.args.visitor.now
    c.self.inside.nodes.items c.deref-node-items.result.now c.self.inside.links.items c.deref.result.now c.loop-at.at none c.loop-at.visitor c.visit.new.visitor
    c.deref-node-items.ensures.value c.deref.ensures.value c.loop-at-test.true c.loop-at.invariant c.visit.ensures

pub returns : goal.returns
returns g c =
    walk_over g.V.Visitor.may_enter g.V.Visitor.enters g.V.Visitor.may_leave g.V.Visitor.leaves (events c.args.self.now) c.args.visitor.now
    c.self.inside.nodes.items c.self.inside.links.items c.loop-at.at c.loop-at.visitor (omega (arith, ap length c.deref-node-items.ensures.value))
    c.loop-at.invariant
