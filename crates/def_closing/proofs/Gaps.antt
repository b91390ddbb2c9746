-- How far apart two actions can be worth, by the best replies of the other player.
use Rattle.std.proofs.Common.{◌≡◌, ℕ, zero, suc, ◌+◌, ◌-◌, ◌*◌, ◌≤◌, ◌<◌, ◌≢◌, Bool, true, false, cond, eqb, ◌==◌}
use Rattle.std.proofs.Common.{List, [], ◌∷◌, length, get_or, slice_index, filter, map, All, arith, ap, sym, ◌∙◌, refl, subst, ⊎_elim}
use Rattle.std.specs.Prelude.{ℤ, pos, ◌+ℤ◌, ◌-ℤ◌, ◌*ℤ◌, ◌≤ℤ◌, neg_ℤ}
use Rattle.std.specs.List.{range_with_len}
use Rattle.std.proofs.lemmas.Int.{ints}
use Rattle.std.proofs.lemmas.List.FromFn.{get_or-map-range_with_len, length-map-range_with_len}
use Rattle.std.proofs.lemmas.List.Elements.{All-head, All-tail}
use Rattle.std.proofs.lemmas.Bool.{cases_eq}
use Rattle.std.proofs.lemmas.Bool.Decides.{eqb_tells}
use Rattle.def_sums.specs.Sum.{sum_over, nat_sum_over}
use Rattle.def_sums.proofs.RingLaws.{+ℤ-*ℤ, zero-*ℤ, neg-*ℤ, *ℤ-mono_right, *ℤ-mono}
use Rattle.def_sums.proofs.Ranges.{All-range}
use Rattle.def_tree.specs.declared.Player.{Player}
use Rattle.def_tree.specs.declared.Player.TheVariants.{One, Two}
use Rattle.def_tree.specs.Opponent.{opponent}
use Rattle.def_plan.specs.Form.{InformationSet, PlacedSet, placed, sequences_of, sequence_count, sequences, player_sets, Leaf, leaf_sequence, SequenceForm}
use Rattle.def_plan.specs.Plan.{IsPlan}
use Rattle.def_plan.specs.Payoff.{worth}
use Rattle.def_plan.proofs.Regroup.{regroup}
use Rattle.def_reply.specs.Reply.{best_of}
use Rattle.def_reply.proofs.Bests.{none-better}
use Rattle.def_reply.proofs.BoundLaws.{best_optimal}
use Rattle.def_round.specs.Play.{units, positive_part, IsSequenceOf, GivesAllUnits}
use Rattle.def_round.specs.Round.{own_sum, set_value, values_from}
use Rattle.def_round.proofs.Averages.{value_at_most, value_at_least}
use Rattle.def_closing.specs.Width.{weight_at, most_from, gap_of_actions, gap_between, greatest, gap_at}
use Rattle.def_closing.specs.Laws.{AreInOrderBoth, GapsAreSpread}
use Rattle.def_closing.proofs.SetBound.{natural-above}
use Rattle.def_closing.proofs.Spreads.{worth_split}

-- ---- sums over the other player's sequences
abbrev over_plan : (ℕ → ℤ) → List ℕ → List ℕ → ℤ
over_plan f y os = sum_over (λ o. f o *ℤ pos (slice_index y o)) os

over-mono : (f g : ℕ → ℤ) (y os : List ℕ) → ((o : ℕ) → f o ≤ℤ g o) → over_plan f y os ≤ℤ over_plan g y os
over-mono f g y [] le = omega (arith, ints)
over-mono f g y (o ∷ os) le = omega (arith, ints, *ℤ-mono_right (slice_index y o) (f o) (g o) (le o), over-mono f g y os le)

over-cond : (b : Bool) (f g : ℕ → ℤ) (y os : List ℕ)
    → over_plan (λ o. f o +ℤ cond b (g o) (pos 0)) y os ≡ over_plan f y os +ℤ cond b (over_plan g y os) (pos 0)
over-cond true f g y [] = omega (arith, ints)
over-cond false f g y [] = omega (arith, ints)
over-cond true f g y (o ∷ os) = omega (arith, ints, over-cond true f g y os, +ℤ-*ℤ (f o) (g o) (pos (slice_index y o)))
over-cond false f g y (o ∷ os) = omega (arith, ints, over-cond false f g y os, +ℤ-*ℤ (f o) (pos 0) (pos (slice_index y o)), zero-*ℤ (pos (slice_index y o)))

over-less : (f g : ℕ → ℤ) (y os : List ℕ) → over_plan (λ o. f o -ℤ g o) y os ≡ over_plan f y os -ℤ over_plan g y os
over-less f g y [] = omega (arith, ints)
over-less f g y (o ∷ os) = omega (arith, ints, over-less f g y os, +ℤ-*ℤ (f o) (neg_ℤ (g o)) (pos (slice_index y o)), neg-*ℤ (g o) (pos (slice_index y o)))

over-negative : (f : ℕ → ℤ) (y os : List ℕ) → over_plan (λ o. neg_ℤ (f o)) y os ≡ neg_ℤ (over_plan f y os)
over-negative f y [] = refl
over-negative f y (o ∷ os) = omega (arith, ints, over-negative f y os, neg-*ℤ (f o) (pos (slice_index y o)))

-- a player's sum against a plan, by the other player's sequences
own_sum-over : (player : Player) (leaves : List Leaf) (y : List ℕ) (n s : ℕ) → length y ≡ n
    → own_sum player leaves y s ≡ over_plan (weight_at player leaves s) y (range_with_len 0 n)
own_sum-over One leaves y n s long = sym (regroup (filter (λ z. leaf_sequence One z == s) leaves) (leaf_sequence Two) (λ z. z.weight) y n long)
own_sum-over Two leaves y n s long =
    ap neg_ℤ (sym (regroup (filter (λ z. leaf_sequence Two z == s) leaves) (leaf_sequence One) (λ z. z.weight) y n long))
    ∙ sym (over-negative (λ o. sum_over (λ z. z.weight) (filter (λ z. leaf_sequence One z == o) (filter (λ z. leaf_sequence Two z == s) leaves))) y
    (range_with_len 0 n))

-- ---- the best of some numbers
best-above : (f : ℕ → ℤ) (a n t : ℕ) → a ≤ t → t < a + n → f t ≤ℤ best_of One (map f (range_with_len a n))
best-above f a n t low high =
    subst (λ z. z ≤ℤ best_of One (map f (range_with_len a n))) (get_or-map-range_with_len f a n (t - a) t (pos 0) (omega arith) (omega arith))
    (none-better One (map f (range_with_len a n)) (t - a) (pos 0) (omega (arith, length-map-range_with_len f a n)))

best-below : (f : ℕ → ℤ) (a n t : ℕ) → a ≤ t → t < a + n → best_of Two (map f (range_with_len a n)) ≤ℤ f t
best-below f a n t low high =
    subst (λ z. best_of Two (map f (range_with_len a n)) ≤ℤ z) (get_or-map-range_with_len f a n (t - a) t (pos 0) (omega arith) (omega arith))
    (none-better Two (map f (range_with_len a n)) (t - a) (pos 0) (omega (arith, length-map-range_with_len f a n)))

-- ---- worths by the other player's sequences
abbrev AllUnits : List ℕ → PlacedSet → Type 0
AllUnits play h = nat_sum_over (λ s. slice_index play s) (sequences_of h) ≡ units

cond-up : (b : Bool) (x v a g : ℤ) → x ≤ℤ a → v ≤ℤ g → (x +ℤ cond b v (pos 0)) ≤ℤ (a +ℤ cond b g (pos 0))
cond-up true x v a g le more = omega (arith, ints)
cond-up false x v a g le more = omega (arith, ints)

worth_at_most : (sums : ℕ → ℤ) (weights : ℕ → ℕ → ℤ) (y os : List ℕ) (play : List ℕ) (hs : List PlacedSet)
    → ((s : ℕ) → sums s ≤ℤ over_plan (weights s) y os) → All (AllUnits play) hs
    → (s : ℕ) → worth sums hs (values_from sums play hs) s ≤ℤ over_plan (most_from One weights hs s) y os
worth_at_most sums weights y os play [] small whole s = omega (arith, ints, small s)
worth_at_most sums weights y os play (h ∷ hs) small whole s =
    let later : List ℤ = values_from sums play hs in
    let below : (t : ℕ) → worth sums hs later t ≤ℤ over_plan (most_from One weights hs t) y os =
    worth_at_most sums weights y os play hs small (All-tail (AllUnits play) h hs whole) in
    let best : ℕ → ℤ = λ o. best_of One (map (λ t. most_from One weights hs t o) (sequences_of h)) in
    let value : ℤ = set_value play (worth sums hs later) h in
    let most : value ≤ℤ over_plan best y os = value_at_most play (worth sums hs later) h (over_plan best y os) (All-head (AllUnits play) h hs whole)
    (All-range (λ t. worth sums hs later t ≤ℤ over_plan best y os) h.first h.actions
    (λ t low high. let up = over-mono (most_from One weights hs t) best y os
    (λ o. best-above (λ t. most_from One weights hs t o) h.first h.actions t low high) in omega (arith, ints, below t, up))) in
    let split = worth_split sums h hs value later s in
    let sum = over-cond (eqb h.before s) (most_from One weights hs s) best y os in
    omega (
      arith,
      ints,
      split,
      sum,
      cond-up (eqb h.before s) (worth sums hs later s) value (over_plan (most_from One weights hs s) y os) (over_plan best y os)
          (below s) most,
    )

worth_at_least : (sums : ℕ → ℤ) (weights : ℕ → ℕ → ℤ) (y os : List ℕ) (play : List ℕ) (hs : List PlacedSet)
    → ((s : ℕ) → over_plan (weights s) y os ≤ℤ sums s) → All (AllUnits play) hs
    → (s : ℕ) → over_plan (most_from Two weights hs s) y os ≤ℤ worth sums hs (values_from sums play hs) s
worth_at_least sums weights y os play [] small whole s = omega (arith, ints, small s)
worth_at_least sums weights y os play (h ∷ hs) small whole s =
    let later : List ℤ = values_from sums play hs in
    let above : (t : ℕ) → over_plan (most_from Two weights hs t) y os ≤ℤ worth sums hs later t =
    worth_at_least sums weights y os play hs small (All-tail (AllUnits play) h hs whole) in
    let best : ℕ → ℤ = λ o. best_of Two (map (λ t. most_from Two weights hs t o) (sequences_of h)) in
    let value : ℤ = set_value play (worth sums hs later) h in
    let least : over_plan best y os ≤ℤ value = value_at_least play (worth sums hs later) h (over_plan best y os) (All-head (AllUnits play) h hs whole)
    (All-range (λ t. over_plan best y os ≤ℤ worth sums hs later t) h.first h.actions
    (λ t low high. let down = over-mono best (most_from Two weights hs t) y os
    (λ o. best-below (λ t. most_from Two weights hs t o) h.first h.actions t low high) in omega (arith, ints, above t, down))) in
    let split = worth_split sums h hs value later s in
    let sum = over-cond (eqb h.before s) (most_from Two weights hs s) best y os in
    omega (
      arith,
      ints,
      split,
      sum,
      cond-up (eqb h.before s) (over_plan (most_from Two weights hs s) y os) (over_plan best y os) (worth sums hs later s) value
          (above s) least,
    )

-- ---- the greatest of some numbers
at_most_greatest : (f : ℕ → ℕ) (a n t : ℕ) → a ≤ t → t < a + n → f t ≤ greatest f (range_with_len a n)
at_most_greatest f a zero t low high = absurd (omega arith)
at_most_greatest f a (suc n) t low high =
    ⊎_elim
    (λ (same : t ≡ a). let e : f t ≡ f a = ap f same in omega arith)
    (λ (other : t ≢ a). let later = at_most_greatest f (a + 1) n t (omega arith) (omega arith) in omega arith)
    (cases_eq t a)

module _ (player : Player) (form : SequenceForm) (order : AreInOrderBoth form) (root : ℕ) (play plan : List ℕ)
    (whole : GivesAllUnits play (player_sets form player)) (is : IsPlan (player_sets form (opponent player)) root plan) where
  abbrev sets : List PlacedSet
  sets = placed (player_sets form player)

  abbrev worths : ℕ → ℤ
  worths = worth (own_sum player form.leaves plan) sets (values_from (own_sum player form.leaves plan) play sets)

  -- two actions are no further apart than the gap of them, times the root
  apart_by_gap : (s t : ℕ) → worths s ≤ℤ (worths t +ℤ (pos root *ℤ gap_of_actions player form s t))
  apart_by_gap s t =
      let others : List InformationSet = player_sets form (opponent player) in
      let weights : ℕ → ℕ → ℤ = weight_at player form.leaves in
      let sums : ℕ → ℤ = own_sum player form.leaves plan in
      let os : List ℕ = sequences others in
      let same : (u : ℕ) → sums u ≡ over_plan (weights u) plan os = λ u.
      own_sum-over player form.leaves plan (sequence_count others) u is.all_sequences in
      let up = worth_at_most sums weights plan os play sets (λ u. let e = same u in omega (arith, ints)) whole s in
      let down = worth_at_least sums weights plan os play sets (λ u. let e = same u in omega (arith, ints)) whole t in
      let gaps : ℕ → ℤ = λ o. most_from One weights sets s o -ℤ most_from Two weights sets t o in
      let reply = best_optimal.bound One gaps others root plan (order (opponent player)) is in
      let less = over-less (most_from One weights sets s) (most_from Two weights sets t) plan os in
      omega (arith, ints, up, down, reply, less)

  within_gap : (h : PlacedSet) (s t : ℕ) → IsSequenceOf h s → IsSequenceOf h t
      → worths s ≤ℤ (worths t +ℤ pos (root * gap_at player form h))
  within_gap h s t is_s is_t =
      ⊎_elim
      (λ same. let e : worths s ≡ worths t = ap worths same.1 in omega (arith, ints, e))
      (λ apart.
      let gap : ℤ = gap_of_actions player form s t in
      let is_gap : gap_between player form s t ≡ positive_part gap = ap (λ b. cond b 0 (positive_part gap)) apart.0 in
      let one = at_most_greatest (λ t. gap_between player form s t) h.first h.actions t is_t.0 is_t.1 in
      let two = at_most_greatest (λ s. greatest (λ t. gap_between player form s t) (sequences_of h)) h.first h.actions s is_s.0 is_s.1 in
      let small : gap ≤ℤ pos (gap_at player form h) = omega (arith, ints, natural-above gap, is_gap, one, two) in
      let times = *ℤ-mono root gap (pos (gap_at player form h)) small in
      omega (arith, ints, apart_by_gap s t, times))
      (eqb_tells s t)

pub gaps_are_spread : GapsAreSpread
gaps_are_spread player form order root play plan whole is k d low s t is_s is_t =
    within_gap player form order root play plan whole is (get_or (placed (player_sets form player)) k d) s t is_s is_t
