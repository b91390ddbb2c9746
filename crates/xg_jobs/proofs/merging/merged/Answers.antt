use Rattle.std.proofs.Common.{◌≡◌, ℕ, ◌+◌, ◌-◌, ◌<◌, List, All, length, set, map, take, drop, slice_index, sym, ap, subst, ◌∙◌, arith}
use Rattle.std.proofs.lemmas.List.{length-map}
use Rattle.xg_jobs.specs.Groups.{GroupLeaf, group_mass}
use Rattle.xg_jobs.specs.Merging.{MergedUpto, TakesGroup}
use Rattle.xg_jobs.proofs.GroupSums.{group_map}
use Rattle.xg_jobs.proofs.OneEntry.{one_group, upto_more, written_over}
use Rattle.xg_jobs.proofs.merging.merged.Goals as goal

pub merge_group-requires-clause-within : goal.merge_group-requires-clause-within
merge_group-requires-clause-within g c =
    let s : ℕ = c.loop-s.s in
    let low : s + 1 < length c.args.starts.now = omega arith in
    let is = group_map g.E.GroupEntry.leaf c.args.starts.now c.args.entries.now s in
    let count : length c.deref_mut.result.now ≡ c.args.others = ap length c.deref_mut.ensures.value ∙ c.loop-s.invariant.1 in
    let starts = c.args.starts.now in
    let group : List GroupLeaf = map g.E.GroupEntry.leaf (take (slice_index starts (s + 1) - slice_index starts s)
    (drop (slice_index starts s) c.args.entries.now)) in
    subst (λ m. All (λ e. e.other < m) group) (sym count) (subst (All (λ (e : GroupLeaf). e.other < c.args.others)) (sym is) (c.requires.groups.within s low))

pub merge_group-requires-clause-light : goal.merge_group-requires-clause-light
merge_group-requires-clause-light g c =
    let low : c.loop-s.s + 1 < length c.args.starts.now = omega arith in
    rw (group_map g.E.GroupEntry.leaf c.args.starts.now c.args.entries.now c.loop-s.s) (c.requires.groups.light c.loop-s.s low)

pub merge_group-requires-clause-room : goal.merge_group-requires-clause-room
merge_group-requires-clause-room g c =
    let starts = c.args.starts.now in
    let es : List GroupLeaf = map g.E.GroupEntry.leaf c.args.entries.now in
    let s : ℕ = c.loop-s.s in
    let low : s + 1 < length starts = omega arith in
    let is = group_map g.E.GroupEntry.leaf starts c.args.entries.now s in
    λ e small. c.requires.room e (omega (arith, small, ap group_mass is, one_group starts es s (omega arith)))

pub loop-s-preserved : goal.loop-s-preserved
loop-s-preserved g c =
    let s : ℕ = c.loop-s.s in
    let starts = c.args.starts.now in
    let es : List GroupLeaf = map g.E.GroupEntry.leaf c.args.entries.now in
    let begun : List ℕ = c.loop-s.grouped.starts.items in
    let now : List GroupLeaf = map g.E.GroupEntry.leaf c.loop-s.grouped.entries.items in
    let new : List GroupLeaf = map g.E.GroupEntry.leaf c.merge_group.new.entries.items in
    let upto = c.loop-s.invariant.0 in
    let low : s + 1 < length starts = omega arith in
    let here : s + 1 < length begun = omega (arith, upto.count) in
    let end : c.len.result ≡ length new = omega (arith, c.len.ensures, length-map c.merge_group.new.entries.items g.E.GroupEntry.leaf) in
    let is = group_map g.E.GroupEntry.leaf starts c.args.entries.now s in
    let long : length c.merge_group.new.places ≡ c.loop-s.places.len = c.merge_group.auto.places ∙ c.deref_mut.ensures.len in (
      subst (λ k. MergedUpto (s + 1) (set begun (s + 1) k) new starts es) (sym end)
          (upto_more s begun now new starts es here (c.requires.groups.ordered s low) (omega (arith, c.requires.groups.inside (s + 1) low)) upto
          (subst (λ g. TakesGroup g now new) is c.in_ok-merge_group.ensures)),
      ap length (written_over c.loop-s.places.len c.merge_group.new.places c.loop-s.places.items long)
          ∙ c.merge_group.auto.places ∙ ap length c.deref_mut.ensures.value ∙ c.loop-s.invariant.1,
    )
