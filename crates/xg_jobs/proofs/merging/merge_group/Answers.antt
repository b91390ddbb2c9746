use Rattle.std.proofs.Common.{◌≡◌, ℕ, List, get_or, length, take, drop, map, sym, ap, subst, arith}
use Rattle.std.proofs.lemmas.List.{length-map}
use Rattle.xg_jobs.specs.Groups.{GroupLeaf, HaveOwnSequences}
use Rattle.xg_jobs.specs.Merging.{TakesGroup, TakesLeaf, TellPlaces}
use Rattle.xg_jobs.proofs.GroupSums.{leaf_at}
use Rattle.xg_jobs.proofs.OneEntry.{next_leaf, taken_mass, takes_more, takes_none, told_once}
use Rattle.xg_jobs.proofs.merging.merge_group.Goals as goal

pub loop-e-init : goal.loop-e-init
loop-e-init g c =
    let leaf = g.E.GroupEntry.leaf in (
      takes_none (map leaf c.args.entries.now.items),
      λ i from low. absurd (omega (arith, from, low, length-map c.args.entries.now.items leaf)),
    )

pub merge_leaf-requires-clause-told : goal.merge_leaf-requires-clause-told
merge_leaf-requires-clause-told g c =
    let from : c.len-begin.result ≡ length c.args.entries.now.items = omega (arith, c.len-begin.ensures) in
    subst (λ k. TellPlaces k c.loop-e.places (map g.E.GroupEntry.leaf c.loop-e.entries.items)) (sym from) c.loop-e.invariant.1

pub merge_leaf-requires-clause-within : goal.merge_leaf-requires-clause-within
merge_leaf-requires-clause-within g c =
    let leaf = g.E.GroupEntry.leaf in
    let group = c.args.group.now in
    let e : GroupLeaf = leaf c.e-item.result in
    let i : ℕ = c.loop-e.e-index in
    let read : get_or (map leaf group) i e ≡ e = leaf_at leaf group i c.e-item.result c.loop-e-test.true c.e-item.is in
    omega (arith, c.requires.within i e (omega (arith, length-map group leaf)), ap (λ x. x.other) read, c.loop-e.auto.places)

pub merge_leaf-requires-clause-light : goal.merge_leaf-requires-clause-light
merge_leaf-requires-clause-light g c =
    let leaf = g.E.GroupEntry.leaf in
    omega (
      arith,
      taken_mass leaf c.args.group.now c.args.entries.now.items c.len-begin.result c.loop-e.e-index c.e-item.result
          (map leaf c.loop-e.entries.items) c.loop-e-test.true c.e-item.is (omega (arith, c.len-begin.ensures)) c.loop-e.invariant.0,
      c.requires.light,
    )

pub merge_leaf-requires-clause-room : goal.merge_leaf-requires-clause-room
merge_leaf-requires-clause-room g c =
    let leaf = g.E.GroupEntry.leaf in
    λ e small.
    c.requires.room e (omega (
      arith,
      small,
      taken_mass leaf c.args.group.now c.args.entries.now.items c.len-begin.result c.loop-e.e-index c.e-item.result
          (map leaf c.loop-e.entries.items) c.loop-e-test.true c.e-item.is (omega (arith, c.len-begin.ensures)) c.loop-e.invariant.0,
    ))

pub loop-e-preserved : goal.loop-e-preserved
loop-e-preserved g c =
    let leaf = g.E.GroupEntry.leaf in
    let group = c.args.group.now in
    let i : ℕ = c.loop-e.e-index in
    let e : GroupLeaf = leaf c.e-item.result in
    let old : List GroupLeaf = map leaf c.args.entries.now.items in
    let now : List GroupLeaf = map leaf c.loop-e.entries.items in
    let new : List GroupLeaf = map leaf c.merge_leaf.new.entries.items in
    let begins : c.len-begin.result ≡ length old = omega (arith, c.len-begin.ensures, length-map c.args.entries.now.items leaf) in
    let from : c.len-begin.result ≡ length c.args.entries.now.items = omega (arith, c.len-begin.ensures) in
    let told : TellPlaces (length c.args.entries.now.items) c.merge_leaf.new.places new =
    subst (λ k. TellPlaces k c.merge_leaf.new.places new) from c.in_ok-merge_leaf.ensures.told in
    let once : HaveOwnSequences (drop (length old) new) =
    told_once (length old) c.merge_leaf.new.places new (subst (λ k. TellPlaces k c.merge_leaf.new.places new) begins c.in_ok-merge_leaf.ensures.told) in (
      subst (λ xs. TakesGroup xs old new) (sym (next_leaf leaf group i c.e-item.result c.loop-e-test.true c.e-item.is))
          (takes_more (take i (map leaf group)) e old now new c.loop-e.invariant.0 (subst (λ k. TakesLeaf k e now new) begins c.in_ok-merge_leaf.ensures.takes)
          once),
      told,
    )
