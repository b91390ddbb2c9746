-- A plan that is dealt up to a set, and the next set.
use Rattle.std.proofs.Common.{◌≡◌, ℕ, ◌+◌, ◌-◌, ◌<◌, ◌≤◌, ◌++◌, List, length, get_or, take, drop, map, ap, sym, subst, ◌∙◌, arith, slice_index, ⊎_elim}
use Rattle.std.specs.List.{range_with_len}
use Rattle.std.proofs.lemmas.Bool.{cases_eq, cases_lt}
use Rattle.std.proofs.lemmas.List.{get_or-take, get_or_append_left, length-take-le}
use Rattle.std.proofs.lemmas.List.FromFn.{length-map-range_with_len}
use Rattle.def_sums.specs.Sum.{nat_sum_over}
use Rattle.def_sums.proofs.Ranges.{at_most_sum, map-range_same}
use Rattle.def_plan.specs.Form.{AreInOrder, InformationSet, PlacedSet, placed, sequence_count, sequences_of}
use Rattle.def_plan.specs.Plan.{AddsUp}
use Rattle.def_plan.proofs.BadSets.{length-placed}
use Rattle.def_round.specs.Shares.{shares, weight_sum}
use Rattle.def_round.proofs.SharesLaws.{length-shares, shares_whole}
use Rattle.def_round.specs.Laws.{IsPlanOfPlay}
use Rattle.def_round.specs.Play.{plan_of_play, play_rule}
use Rattle.def_round.proofs.Blocks.{map-block}
use Rattle.def_round.proofs.Plays.{plans_of_plays_are_unique, sum_of_map}
use Rattle.xg_plan.proofs.PlaceLemmas.{IsPlacedAs, SetAt, few_before, first_of, no_place, part_is, set_at}

-- at a set the numbers are those that the play makes of the number before it
abbrev pub IsDealtAt : List ℕ → List ℕ → PlacedSet → Type 0
IsDealtAt play plan h = map (λ s. slice_index plan s) (sequences_of h) ≡ play_rule play h (slice_index plan h.before)

-- each sequence has a number, the first one the root, and the first k sets are dealt by the play, within the root
pub record IsDealtUpTo (sets : List InformationSet) (play : List ℕ) (root k : ℕ) (plan : List ℕ) : Type 0 where
  pub all_sequences : length plan ≡ sequence_count sets
  pub root_weight : slice_index plan 0 ≡ root
  pub small : (s : ℕ) → s < first_of sets k → slice_index plan s ≤ root
  pub dealt : (j : ℕ) (d : PlacedSet) → j < k → IsDealtAt play plan (get_or (placed sets) j d)

adds_up : (play plan : List ℕ) (h : PlacedSet) → 1 ≤ h.actions → IsDealtAt play plan h → AddsUp plan h
adds_up play plan h some dealt =
    let weights : List ℕ = map (λ s. slice_index play s) (sequences_of h) in
    sum_of_map (λ s. slice_index plan s) (sequences_of h) ∙ ap weight_sum dealt
    ∙ shares_whole (slice_index plan h.before) weights (omega (arith, length-map-range_with_len (λ s. slice_index play s) h.first h.actions))

-- nothing but the root
pub dealt_to_none : (sets : List InformationSet) (play plan : List ℕ) (root : ℕ) → length plan ≡ sequence_count sets
    → slice_index plan 0 ≡ root → IsDealtUpTo sets play root 0 plan
dealt_to_none sets play plan root long is_root = record {
  all_sequences = long;
  root_weight = is_root;
  small = λ s low. let none : s ≡ 0 = omega arith in omega (arith, is_root, ap (λ t. slice_index plan t) none);
  dealt = λ j d low. absurd (omega arith);
}

-- the number before a set stands there when the set is dealt
pub small_before : (sets : List InformationSet) (play : List ℕ) (root k : ℕ) (plan : List ℕ) → AreInOrder sets
    → k < length sets → IsDealtUpTo sets play root k plan
    → (d : PlacedSet) → slice_index plan (get_or (placed sets) k d).before ≤ root
small_before sets play root k plan order below upto d = let at = set_at sets k d order below in upto.small (get_or (placed sets) k d).before
    (omega (arith, at.first, at.earlier))

-- the numbers that a set gets now are dealt from the number before it by the play
abbrev pub IsDealtFrom : List ℕ → List ℕ → List ℕ → PlacedSet → Type 0
IsDealtFrom play plan next h = map (λ s. slice_index next s) (sequences_of h) ≡ play_rule play h (slice_index plan h.before)

-- the numbers of set k are dealt, and those of the sequences before it stay
pub record Deals (sets : List InformationSet) (play : List ℕ) (k : ℕ) (plan next : List ℕ) : Type 0 where
  pub count : length next ≡ length plan
  pub earlier : (d : PlacedSet) (s : ℕ) → s < (get_or (placed sets) k d).first → slice_index next s ≡ slice_index plan s
  pub dealt : (d : PlacedSet) → IsDealtFrom play plan next (get_or (placed sets) k d)

-- one set more
pub dealt_more_sets : (sets : List InformationSet) (play : List ℕ) (root k : ℕ) (plan next : List ℕ) → AreInOrder sets
    → k < length sets → IsDealtUpTo sets play root k plan → Deals sets play k plan next
    → IsDealtUpTo sets play root (k + 1) next
dealt_more_sets sets play root k plan next order below upto deals =
    let h : PlacedSet = get_or (placed sets) k no_place in
    let at : SetAt sets k h = set_at sets k no_place order below in
    let stays : (s : ℕ) → s < first_of sets k → slice_index next s ≡ slice_index plan s = λ s low. deals.earlier no_place s (omega (arith, at.first)) in
    let here : (d : PlacedSet) → IsDealtAt play next (get_or (placed sets) k d) =
    λ d.
    let at_d : SetAt sets k (get_or (placed sets) k d) = set_at sets k d order below in
    deals.dealt d ∙ ap (play_rule play (get_or (placed sets) k d)) (sym (deals.earlier d (get_or (placed sets) k d).before at_d.earlier)) in
    let all : AddsUp next h = adds_up play next h at.some (here no_place) in
    let within : slice_index next h.before ≤ root = omega (
      arith,
      stays h.before (omega (arith, at.first, at.earlier)),
      upto.small h.before (omega (arith, at.first, at.earlier)),
    ) in
    record {
      all_sequences = deals.count ∙ upto.all_sequences;
      root_weight = stays 0 (omega arith) ∙ upto.root_weight;
      small = λ s low.
          ⊎_elim
          (λ earlier. omega (arith, stays s earlier, upto.small s earlier))
          (λ later. omega (arith, at_most_sum (λ s. slice_index next s) h.first h.actions s (omega (arith, at.first)) (omega (arith, at.next)), all, within))
          (cases_lt s (first_of sets k));
      dealt = λ j d low.
          ⊎_elim
          (λ last. let is : j ≡ k = last in rw is (here d))
          (λ other.
          let g : PlacedSet = get_or (placed sets) j d in
          let before : j < k = omega arith in
          let at_j : SetAt sets j g = set_at sets j d order (omega arith) in
          let few = few_before sets (j + 1) k (omega arith) in
          map-range_same (λ s. slice_index next s) (λ s. slice_index plan s) g.first g.actions (λ s from to. stays s (omega (arith, at_j.next, few)))
          ∙ upto.dealt j d before ∙ ap (play_rule play g) (sym (stays g.before (omega (arith, at_j.earlier, at_j.next, few)))))
          (cases_eq j k);
    }

-- all sets
pub dealt_to_all : (sets : List InformationSet) (play : List ℕ) (root : ℕ) (plan : List ℕ) → AreInOrder sets → 1 ≤ root
    → IsDealtUpTo sets play root (length sets) plan → IsPlanOfPlay sets play root plan
dealt_to_all sets play root plan order some upto = record {
  is_plan = record {
    all_sequences = upto.all_sequences;
    some_root = some;
    root_weight = upto.root_weight;
    each_set = λ j d low.
        let below : j < length sets = omega (arith, length-placed 1 sets) in
        adds_up play plan (get_or (placed sets) j d) (set_at sets j d order below).some (upto.dealt j d below);
  };
  each_set = λ j d low. upto.dealt j d (omega (arith, length-placed 1 sets));
}

-- what is dealt up to the last set is the plan of the play
pub dealt_is_plan_of_play : (sets : List InformationSet) (play : List ℕ) (root : ℕ) (plan : List ℕ) → AreInOrder sets
    → 1 ≤ root → IsDealtUpTo sets play root (length sets) plan → plan ≡ plan_of_play sets play root
dealt_is_plan_of_play sets play root plan order some upto = plans_of_plays_are_unique sets play root plan order
    (dealt_to_all sets play root plan order some upto)

-- the play of a set gives out all units, as a part of the list
pub part_whole : (play : List ℕ) (first actions : ℕ) → first + actions ≤ length play
    → nat_sum_over (λ s. slice_index play s) (range_with_len first actions) ≡ 65536
    → weight_sum (take (first + actions - first) (drop first play)) ≡ 65536
part_whole play first actions inside all =
    ap weight_sum (part_is play first actions inside) ∙ sym (sum_of_map (λ s. slice_index play s) (range_with_len first actions)) ∙ all

-- a block that is put at a set's place keeps what stands before it
pub block_keeps : (plan block rest : List ℕ) (first : ℕ) → first ≤ length plan
    → (s : ℕ) → s < first
    → slice_index (take first plan ++ (block ++ rest)) s ≡ slice_index plan s
block_keeps plan block rest first inside s low =
    let front : length (take first plan) ≡ first = length-take-le first plan inside in
    get_or_append_left (take first plan) (block ++ rest) 0 s (omega (arith, front)) ∙ get_or-take first plan s 0 low

-- and is what the play deals, where it is the shares by the set's part of the play
pub block_deals : (play plan block rest : List ℕ) (n first actions : ℕ)
    → first + actions ≤ length plan → length play ≡ length plan
    → block ≡ shares n (take (first + actions - first) (drop first play))
    → map (λ s. slice_index (take first plan ++ (block ++ rest)) s) (range_with_len first actions)
    ≡ shares n (map (λ s. slice_index play s) (range_with_len first actions))
block_deals play plan block rest n first actions inside as_many dealt =
    let weights : List ℕ = map (λ s. slice_index play s) (range_with_len first actions) in
    let rule : block ≡ shares n weights = dealt ∙ ap (shares n) (part_is play first actions (omega (arith, inside, as_many))) in
    let many : length block ≡ actions = ap length rule ∙ length-shares n weights ∙ length-map-range_with_len (λ s. slice_index play s) first actions in
    let new : List ℕ = take first plan ++ (block ++ rest) in
    ap (λ m. map (λ s. slice_index new s) (range_with_len first m)) (sym many)
    ∙ map-block (take first plan) block rest first 0 (length-take-le first plan (omega (arith, inside))) ∙ rule

-- a set that is dealt at its place among the sets
pub deals_at : (sets : List InformationSet) (play : List ℕ) (k first actions before : ℕ) (plan next : List ℕ)
    → IsPlacedAs sets k first actions before → length next ≡ length plan
    → ((s : ℕ) → s < first → slice_index next s ≡ slice_index plan s)
    → IsDealtFrom play plan next (record { first = first; before = before; actions = actions })
    → Deals sets play k plan next
deals_at sets play k first actions before plan next known count earlier dealt = record {
  count = count;
  earlier = λ d s low. earlier s (omega (arith, low, ap (λ (h : PlacedSet). h.first) (known.is d)));
  dealt = λ d. subst (IsDealtFrom play plan next) (sym (known.is d)) dealt;
}
