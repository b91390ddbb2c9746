use Rattle.std.proofs.Common.{List, map, ap, subst, sym, ◌∙◌}
use Rattle.def_plan.specs.Form.{sequence_count}
use Rattle.xg_jobs.specs.Entries.{AreMergedGroups, KeepsGroups}
use Rattle.xg_jobs.specs.Groups.{GroupLeaf}
use Rattle.xg_jobs.specs.Grouping.{weights_in}
use Rattle.xg_jobs.specs.Merging.{HasRoomUpTo}
use Rattle.xg_jobs.proofs.groups.LeafGroups.of.Goals as goal

pub grouped-requires : goal.grouped-requires
grouped-requires g c = record { room = subst (HasRoomUpTo g.E.GroupEntry.has_room) c.requires.mass c.requires.room }

pub invariant_of-result : goal.invariant_of-result
invariant_of-result g c =
    let starts = c.in_ok-groups.groups.starts.items in
    let entries : List GroupLeaf = map g.E.GroupEntry.leaf c.in_ok-groups.groups.entries.items in
    let kept = c.in_ok-groups.ensures.keeps in
    let keeps =
    subst (λ es. KeepsGroups starts es c.sequence_count.result c.args.mass) (sym c.in_ok-pack.ensures.leaves)
    (subst (λ n. KeepsGroups starts entries n c.args.mass) (sym c.sequence_count.ensures.count)
    (subst (KeepsGroups starts entries (sequence_count c.args.form.now.sets_two)) (sym c.requires.mass) kept)) in
    (keeps, c.in_ok-pack.ensures.smallest, subst (AreMergedGroups starts) (sym c.in_ok-pack.ensures.leaves) c.in_ok-groups.ensures.merged)

pub returns-clause-weights : goal.returns-clause-weights
returns-clause-weights g c =
    let starts = c.in_ok-groups.groups.starts.items in
    let entries : List GroupLeaf = map g.E.GroupEntry.leaf c.in_ok-groups.groups.entries.items in
    ap (λ es. weights_in starts es c.sequence_count.result) c.in_ok-pack.ensures.leaves
    ∙ ap (weights_in starts entries) c.sequence_count.ensures.count ∙ c.in_ok-groups.ensures.weights
