use Rattle.std.proofs.Common.{ℕ, ◌-◌, List, map, length, get_or, pos, refl, sym, subst, ◌∙◌, arith}
use Rattle.std.proofs.lemmas.Result.{IfOk-weaker}
use Rattle.def_plan.specs.Form.{sequence_count}
use Rattle.def_tree.specs.declared.Player.TheVariants.{One}
use Rattle.xg_jobs.specs.Groups.{GroupLeaf, groups_mass}
use Rattle.xg_jobs.specs.Grouping.{ArePlaced, entry_of}
use Rattle.xg_jobs.specs.Merging.{AreMerged, CanMerge, HasRoomUpTo}
use Rattle.xg_jobs.proofs.Building.{groups_built, groups_kept, groups_light}
use Rattle.xg_jobs.proofs.Counting.{mass_at}
use Rattle.xg_jobs.proofs.OneEntry.{can_merge, merged_kept, merged_once, merged_weights}
use Rattle.xg_jobs.proofs.groups.grouped.Goals as goal

pub entries_of-requires-clause-none : goal.entries_of-requires-clause-none
entries_of-requires-clause-none g c = c.requires.room (record { other = 0; weight = pos 0 }) (omega arith)

pub entries_of-requires-clause-room : goal.entries_of-requires-clause-room
entries_of-requires-clause-room g c =
    let leaves = c.args.form.now.leaves in
    λ z d low. c.requires.room (entry_of One (get_or leaves z d)) (mass_at leaves z d low)

pub merged-requires-clause-groups : goal.merged-requires-clause-groups
merged-requires-clause-groups g c =
    let form = c.args.form.now in
    let st = c.in_ok-starts.starts.items in
    let raw : List GroupLeaf = map g.E.GroupEntry.leaf c.in_ok-entries.entries.items in
    let placed : ArePlaced form One st raw = subst (λ a. ArePlaced form One a raw) c.deref.ensures.value c.in_ok-entries.ensures in
    let facts = c.facts.ensures in
    let others : ℕ = sequence_count form.sets_two in
    let merges : CanMerge st raw others =
    can_merge st raw others _ (groups_kept form One st raw _ _ c.in_ok-starts.ensures placed facts.sequences refl refl facts.mass)
    (omega (arith, placed.count, facts.leaves)) in
    subst (CanMerge c.deref-2.result.now (map g.E.GroupEntry.leaf c.deref-3.result.now)) (sym c.sequence_count.ensures.count)
    (subst (λ a. CanMerge a (map g.E.GroupEntry.leaf c.deref-3.result.now) others) (sym c.deref-2.ensures.value)
    (subst (λ b. CanMerge st (map g.E.GroupEntry.leaf b) others) (sym c.deref-3.ensures.value) merges))

pub merged-requires-clause-room : goal.merged-requires-clause-room
merged-requires-clause-room g c =
    let form = c.args.form.now in
    let st = c.in_ok-starts.starts.items in
    let raw : List GroupLeaf = map g.E.GroupEntry.leaf c.in_ok-entries.entries.items in
    let placed : ArePlaced form One st raw = subst (λ a. ArePlaced form One a raw) c.deref.ensures.value c.in_ok-entries.ensures in
    let Room : List ℕ → List GroupLeaf → Type 0 = λ a b. HasRoomUpTo g.E.GroupEntry.has_room (groups_mass a b (length a - 1)) in
    let roomy : Room st raw = λ e small. c.requires.room e (omega (arith, small, groups_light form One st raw c.in_ok-starts.ensures placed)) in
    subst (λ a. Room a (map g.E.GroupEntry.leaf c.deref-3.result.now)) (sym c.deref-2.ensures.value)
    (subst (λ b. Room st (map g.E.GroupEntry.leaf b)) (sym c.deref-3.ensures.value) roomy)

pub returns : goal.returns
returns g c =
    let form = c.args.form.now in
    let st = c.in_ok-starts.starts.items in
    let raw : List GroupLeaf = map g.E.GroupEntry.leaf c.in_ok-entries.entries.items in
    let placed : ArePlaced form One st raw = subst (λ a. ArePlaced form One a raw) c.deref.ensures.value c.in_ok-entries.ensures in
    let facts = c.facts.ensures in
    IfOk-weaker c.merged.result _ _ (λ groups merges.
    let starts = groups.starts.items in
    let entries : List GroupLeaf = map g.E.GroupEntry.leaf groups.entries.items in
    let are : AreMerged starts entries st raw =
    subst (λ a. AreMerged starts entries a raw) c.deref-2.ensures.value
    (subst (λ b. AreMerged starts entries c.deref-2.result.now (map g.E.GroupEntry.leaf b)) c.deref-3.ensures.value merges) in
    record {
      keeps = merged_kept starts entries st raw _ _ are (groups_kept form One st raw _ _ c.in_ok-starts.ensures placed facts.sequences refl refl facts.mass);
      weights = merged_weights starts entries st raw _ are ∙ groups_built form One st raw _ c.in_ok-starts.ensures placed refl;
      merged = merged_once starts entries st raw are;
    }) c.merged.ensures
