use Rattle.std.proofs.Common.{◌≡◌, ℕ, ◌<◌, ◌≤◌, List, length, set, map, slice_index, ℤ, ◌+ℤ◌, to_z, of_z, sym, ap, subst, ◌∙◌, unsigned_abs, arith, rules, ◌++◌}
use Rattle.std.proofs.Common.{[], ◌∷◌}
use Rattle.std.specs.Int.{w64}
use Rattle.std.proofs.lemmas.List.{length-map, get_or_default, get_or-map, map-set, map-append}
use Rattle.xg_jobs.specs.Groups.{GroupLeaf}
use Rattle.xg_jobs.specs.Merging.{TakesLeaf, TellPlaces}
use Rattle.xg_jobs.proofs.GroupSums.{leaf_at}
use Rattle.xg_jobs.proofs.OneEntry.{leaf_added, leaf_pushed, more as with_more, told_added, told_pushed, weights_add_up}
use Rattle.xg_jobs.proofs.merging.merge_leaf.Goals.{else-begin-place-via-then-begin-place+then-place-len+else-other}
use Rattle.xg_jobs.proofs.merging.merge_leaf.Goals.{else-begin-place-via-then-begin-place+else-place-len, else-begin-place-via-else-begin-place}
use Rattle.xg_jobs.proofs.merging.merge_leaf.Goals as goal

pub overflow_add-weight : goal.overflow_add-weight
overflow_add-weight g c =
    let items = c.args.entries.now.items in
    let place : ℕ = slice_index c.args.places.now c.other-other.result in
    let x = c.index-then-other.result.now in
    let both = weights_add_up g.E.GroupEntry.leaf items c.args.begin place x c.weight.result c.weight-then-other.result _
    (omega arith) (omega arith) c.index-then-other.ensures (search rules) c.weight.ensures (search rules) c.weight-then-other.ensures c.requires.light in
    both.fits

pub new-requires : goal.new-requires
new-requires g c =
    let items = c.args.entries.now.items in
    let place : ℕ = slice_index c.args.places.now c.other-other.result in
    let x = c.index-then-other.result.now in
    let both = weights_add_up g.E.GroupEntry.leaf items c.args.begin place x c.weight.result c.weight-then-other.result _
    (omega arith) (omega arith) c.index-then-other.ensures (search rules) c.weight.ensures (search rules) c.weight-then-other.ensures c.requires.light in
    c.requires.room (record {
      other = c.other-other.result;
      weight = to_z w64
          (of_z w64 (to_z w64 (of_z w64 c.weight.result) +ℤ to_z w64 (of_z w64 c.weight-then-other.result)));
    })
    (omega (arith, ap unsigned_abs both.sum_is, both.within))

pub returns-then-other : goal.returns-then-other
returns-then-other g c =
    let items = c.args.entries.now.items in
    let place : ℕ = slice_index c.args.places.now c.other-other.result in
    let low : place < length items = omega arith in
    let x = c.index-then-other.result.now in
    let leaf = g.E.GroupEntry.leaf in
    let more : ℤ = (leaf c.args.e).weight in
    let sum = weights_add_up leaf items c.args.begin place x c.weight.result c.weight-then-other.result more
    (omega arith) low c.index-then-other.ensures (search rules) c.weight.ensures (search rules) c.weight-then-other.ensures c.requires.light in
    let gs : List GroupLeaf = map leaf items in
    let y = c.index.result.now in
    let both : y ≡ x = c.index.ensures ∙ get_or_default items place y x low ∙ sym c.index-then-other.ensures in
    let own : (leaf x).other ≡ c.other-other.result = ap (λ z. (leaf z).other) (sym both) ∙ omega arith in
    let known : ℕ → ℤ → GroupLeaf = λ b w. record { other = b; weight = w } in
    let leaf_is : leaf c.new.result ≡ with_more (leaf x) more = c.new.ensures ∙ (λ i. known (sym own i) (sum.sum_is i)) in
    let set_is : map leaf (set items place c.new.result) ≡ set gs place (with_more (leaf x) more) = map-set leaf items place c.new.result
    ∙ (λ i. set gs place (leaf_is i)) in
    let read = leaf_at leaf items place x low c.index-then-other.ensures in
    record {
      takes = subst (TakesLeaf c.args.begin (leaf c.args.e) gs) (sym set_is)
          (leaf_added c.args.begin place (leaf c.args.e) (leaf x) gs (omega arith) (omega (arith, length-map items leaf)) read (own ∙ c.other-other.ensures));
      told = subst (TellPlaces c.args.begin c.args.places.now) (sym set_is)
          (told_added c.args.begin place c.args.places.now (leaf x) more gs read c.requires.told);
    }

pub returns : goal.returns
returns g c =
    let items = c.args.entries.now.items in
    let leaf = g.E.GroupEntry.leaf in
    let gs : List GroupLeaf = map leaf items in
    let e : GroupLeaf = leaf c.args.e in
    let places = c.args.places.now in
    let new : List GroupLeaf = map leaf c.push.new.self.items in
    let pushed : new ≡ gs ++ e ∷ [] = ap (map leaf) c.in_ok-push.ensures.items ∙ map-append leaf items (c.args.e ∷ []) in
    let own : c.other-other.result ≡ e.other = c.other-other.ensures in
    let count : c.len-2.result ≡ length gs = omega (arith, c.len-2.ensures, length-map items leaf) in
    let place : ℕ = slice_index places c.other-other.result in
    let others : List ℕ = map (λ (x : GroupLeaf). x.other) gs in
    let none : (i : ℕ) → c.args.begin ≤ i → i < length gs → slice_index others i ≡ e.other → ⊥ = λ i from low is.
    let at : place ≡ i = ap (slice_index places) (own ∙ sym is) ∙ c.requires.told i from low in
    elim c.else-begin-place.branch [
      | else-begin-place-via-then-begin-place+then-place-len+else-other w ↦ (
          let y = w.index.result.now in
          let below : place < length items = omega (arith, at, low, length-map items leaf) in
          let here : slice_index others place ≡ (leaf y).other =
          get_or-map (λ (x : GroupLeaf). x.other) gs place (leaf y) 0 (omega (arith, at, low))
          ∙ ap (λ (x : GroupLeaf). x.other) (leaf_at leaf items place y below w.index.ensures) in
          w.if-other.false (w.other.ensures ∙ sym here ∙ ap (slice_index others) at ∙ is ∙ sym own)
          )
      | else-begin-place-via-then-begin-place+else-place-len w ↦ absurd (omega (arith, at, low, w.if-place-len.false, w.len.ensures, length-map items leaf))
      | else-begin-place-via-else-begin-place w ↦ absurd (omega (arith, at, from, w.if-begin-place.false))
    ] in
    record {
      takes = subst (TakesLeaf c.args.begin e gs) (sym pushed) (leaf_pushed c.args.begin e gs (omega (arith, c.requires.begin, length-map items leaf)));
      told =
          subst (λ k. TellPlaces c.args.begin (set places k c.len-2.result) new) (sym own)
          (subst (λ n. TellPlaces c.args.begin (set places e.other n) new) (sym count)
          (subst (TellPlaces c.args.begin (set places e.other (length gs))) (sym pushed)
          (told_pushed c.args.begin places e gs c.requires.within c.requires.told none)));
    }
