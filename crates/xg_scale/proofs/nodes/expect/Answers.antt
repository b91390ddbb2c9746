use Rattle.std.proofs.Common.{subst, sym}
use Rattle.def_tree.specs.Events.{Accepts, Leads, events}
use Rattle.xg_scale.specs.Walked.{Enters, Leaves, MayEnter, MayLeave}
use Rattle.xg_scale.proofs.PathLemmas.{ends_expected, ends_refused, whole_walk}
use Rattle.xg_scale.proofs.nodes.expect.Goals as goal

pub walk-requires : goal.walk-requires
walk-requires c =
    let walk = whole_walk c.args.game.now c.requires c.tree.ensures.whole c.in_ok-visitor.visitor c.in_ok-visitor.ensures in
    subst (λ tree. Accepts MayEnter Enters MayLeave Leaves (events tree) c.in_ok-visitor.visitor) (sym c.tree.ensures.tree) walk.accepts

pub returns-in-Some-clause-err : goal.returns-in-Some-clause-err
returns-in-Some-clause-err c =
    let visitor = c.walk.new.visitor in
    let walk = whole_walk c.args.game.now c.requires c.tree.ensures.whole c.in_ok-visitor.visitor c.in_ok-visitor.ensures in
    let ends = walk.ends visitor (subst (λ tree. Leads MayEnter Enters MayLeave Leaves (events tree) c.in_ok-visitor.visitor visitor) c.tree.ensures.tree
    c.walk.ensures) in
    ends_refused c.args.game.now c.requires c.tree.ensures.whole visitor c.in-Some.refused ends c.in-Some.is

pub returns-in-None-clause-ok : goal.returns-in-None-clause-ok
returns-in-None-clause-ok c =
    let visitor = c.walk.new.visitor in
    let walk = whole_walk c.args.game.now c.requires c.tree.ensures.whole c.in_ok-visitor.visitor c.in_ok-visitor.ensures in
    let ends = walk.ends visitor (subst (λ tree. Leads MayEnter Enters MayLeave Leaves (events tree) c.in_ok-visitor.visitor visitor) c.tree.ensures.tree
    c.walk.ensures) in
    ends_expected c.args.game.now c.requires c.tree.ensures.whole visitor ends c.in-None.is
