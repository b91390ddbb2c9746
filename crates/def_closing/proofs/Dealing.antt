-- What a plan that is dealt from a play gains, against what the round is worth under the play.
use Rattle.std.proofs.Common.{◌≡◌, ℕ, ◌+◌, ◌-◌, ◌*◌, ◌≤◌, ◌<◌, List, [], ◌∷◌, map, slice_index, All, arith, ap, sym, ◌∙◌, subst}
use Rattle.std.specs.Prelude.{ℤ, pos, ◌+ℤ◌, ◌-ℤ◌, ◌*ℤ◌, ◌≤ℤ◌, neg_ℤ}
use Rattle.std.specs.List.{AllZip}
use Rattle.std.proofs.lemmas.Int.{ints}
use Rattle.std.proofs.lemmas.List.Elements.{All-head, All-tail}
use Rattle.def_sums.specs.Sum.{sum_over, nat_sum_over}
use Rattle.def_sums.proofs.RingLaws.{*ℤ-+ℤ, neg-*ℤ, *ℤ_comm, *ℤ-mono, *ℤ-cancel, *ℤ_assoc}
use Rattle.def_sums.proofs.SumLaws.{sum_over-factor, sum_over-ext}
use Rattle.def_sums.proofs.Ranges.{All-range}
use Rattle.def_plan.specs.Form.{InformationSet, PlacedSet, placed, sequences_of, AreInOrder}
use Rattle.def_plan.specs.Plan.{AddsUp}
use Rattle.def_plan.specs.Payoff.{gain, worth}
use Rattle.def_round.specs.Shares.{shares}
use Rattle.def_round.specs.Play.{units, IsSequenceOf, GivesAllUnits, plan_of_play}
use Rattle.def_round.specs.Round.{set_value, AreValues}
use Rattle.def_round.proofs.Plays.{plays_deal_by_shares, plays_deal_plans}
use Rattle.def_round.proofs.Proportion.{each_one}
use Rattle.def_closing.specs.Width.{dealing_cost, spread_sum}
use Rattle.def_closing.proofs.Potential.{near-sum, size_of}
use Rattle.def_closing.proofs.Sizes.{IsGrowth, sizes_within}
use Rattle.def_closing.proofs.OneRound.{value_growth, others-sum}
use Rattle.def_plan.proofs.Duality.{at_sets, of_values, two_orders}

-- at one set, where each share is near the play's part: the value of what is dealt is above the worth of the shares by
-- at most the sizes of what the round adds
share_sum : (x : ℕ → ℕ) (w : ℕ → ℤ) (v : ℤ) (xs : List ℕ)
    → sum_over (λ s. pos (x s) *ℤ (w s -ℤ v)) xs +ℤ v *ℤ pos (nat_sum_over x xs) ≡ sum_over (λ s. w s *ℤ pos (x s)) xs
share_sum x w v [] = omega (arith, ints)
share_sum x w v (s ∷ xs) =
    omega (
      arith,
      ints,
      share_sum x w v xs,
      *ℤ-+ℤ (pos (x s)) (w s) (neg_ℤ v),
      *ℤ_comm (pos (x s)) (neg_ℤ v),
      *ℤ_comm (pos (x s)) (w s),
      neg-*ℤ v
          (pos (x s)),
      *ℤ-+ℤ v (pos (x s)) (pos (nat_sum_over x xs)),
    )

pub dealt_at_set : (u n : ℕ) (p x : ℕ → ℕ) (d : ℕ → ℤ) (xs : List ℕ) → 1 ≤ u
    → All (λ s. n * p s ≤ u * x s + u) xs → All (λ s. u * x s ≤ n * p s + u) xs
    → pos 0 ≤ℤ sum_over (λ s. pos (p s) *ℤ d s) xs
    → neg_ℤ (sum_over (λ s. pos (x s) *ℤ d s) xs) ≤ℤ pos (size_of d xs)
dealt_at_set u n p x d xs some up down average =
    let near = near-sum (λ s. n * p s) (λ s. u * x s) u d xs up down in
    let left : sum_over (λ s. pos (n * p s) *ℤ d s) xs ≡ pos n *ℤ sum_over (λ s. pos (p s) *ℤ d s) xs =
    sum_over-ext _ _ xs (λ s. *ℤ_assoc (pos n) (pos (p s)) (d s)) ∙ sum_over-factor (pos n) (λ s. pos (p s) *ℤ d s) xs in
    let right : sum_over (λ s. pos (u * x s) *ℤ d s) xs ≡ pos u *ℤ sum_over (λ s. pos (x s) *ℤ d s) xs =
    sum_over-ext _ _ xs (λ s. *ℤ_assoc (pos u) (pos (x s)) (d s)) ∙ sum_over-factor (pos u) (λ s. pos (x s) *ℤ d s) xs in
    let positive = *ℤ-mono n (pos 0) (sum_over (λ s. pos (p s) *ℤ d s) xs) average in
    let turned : pos u *ℤ neg_ℤ (sum_over (λ s. pos (x s) *ℤ d s) xs) ≡ neg_ℤ (pos u *ℤ sum_over (λ s. pos (x s) *ℤ d s) xs) =
    *ℤ_comm (pos u) (neg_ℤ (sum_over (λ s. pos (x s) *ℤ d s) xs)) ∙ neg-*ℤ (sum_over (λ s. pos (x s) *ℤ d s) xs) (pos u)
    ∙ ap neg_ℤ (*ℤ_comm (sum_over (λ s. pos (x s) *ℤ d s) xs) (pos u)) in
    *ℤ-cancel u (neg_ℤ (sum_over (λ s. pos (x s) *ℤ d s) xs)) (pos (size_of d xs)) some
    (omega (arith, ints, near, left, right, positive, turned))

-- the shares of a dealt number are near the play's parts of it
abbrev IsDealtAt : List ℕ → List ℕ → PlacedSet → Type 0
IsDealtAt play x h = map (λ s. slice_index x s) (sequences_of h) ≡ shares (slice_index x h.before) (map (λ s. slice_index play s) (sequences_of h))

share_near : (play x : List ℕ) (h : PlacedSet) → nat_sum_over (λ s. slice_index play s) (sequences_of h) ≡ units
    → IsDealtAt play x h
    → All (λ s. slice_index x h.before * slice_index play s ≤ units * slice_index x s + units) (sequences_of h)
share_near play x h all are =
    All-range (λ s. slice_index x h.before * slice_index play s ≤ units * slice_index x s + units) h.first h.actions
    (λ s low high.
    let is = each_one (slice_index x h.before) (λ s. slice_index x s) (λ s. slice_index play s) h.first h.actions are s low high (omega (arith, all)) in
    let above : slice_index x h.before * slice_index play s < (slice_index x s + 1) * units =
    subst (λ n. slice_index x h.before * slice_index play s < (slice_index x s + 1) * n) all is.above in
    omega arith)

share_near_below : (play x : List ℕ) (h : PlacedSet) → nat_sum_over (λ s. slice_index play s) (sequences_of h) ≡ units
    → IsDealtAt play x h
    → All (λ s. units * slice_index x s ≤ slice_index x h.before * slice_index play s + units) (sequences_of h)
share_near_below play x h all are =
    All-range (λ s. units * slice_index x s ≤ slice_index x h.before * slice_index play s + units) h.first h.actions
    (λ s low high.
    let is = each_one (slice_index x h.before) (λ s. slice_index x s) (λ s. slice_index play s) h.first h.actions are s low high (omega (arith, all)) in
    let below : slice_index x s * units < slice_index x h.before * slice_index play s + units =
    subst (λ n. slice_index x s * n < slice_index x h.before * slice_index play s + n) all is.below in
    omega arith)

-- what the dealing costs at a set
record DealtSet (root : ℕ) (spread : PlacedSet → ℕ) (play x : List ℕ) (w : ℕ → ℤ) (h : PlacedSet) : Type 0 where
  some : 1 ≤ h.actions
  all : nat_sum_over (λ s. slice_index play s) (sequences_of h) ≡ units
  are : IsDealtAt play x h
  adds : AddsUp x h
  near : (s t : ℕ) → IsSequenceOf h s → IsSequenceOf h t → w s ≤ℤ (w t +ℤ pos (root * spread h))

set_cost : (root : ℕ) (spread : PlacedSet → ℕ) (play x : List ℕ) (w : ℕ → ℤ) (h : PlacedSet) (v : ℤ)
    → v ≡ set_value play w h → DealtSet root spread play x w h
    → (v *ℤ pos (slice_index x h.before)) ≤ℤ (sum_over (λ s. w s *ℤ pos (slice_index x s)) (sequences_of h) +ℤ pos (root * spread_sum spread h))
set_cost root spread play x w h v is_value is =
    let l : ℕ = root * spread h in
    let d : ℕ → ℤ = λ s. w s -ℤ v in
    let growth : IsGrowth units (λ s. slice_index play s) d l h.first h.actions =
    subst (λ z. IsGrowth units (λ s. slice_index play s) (λ s. w s -ℤ z) l h.first h.actions) (sym is_value) (value_growth play w h l is.all is.near) in
    let size : size_of d (sequences_of h) ≤ (h.actions - 1) * l =
    others-sum h.actions l (size_of d (sequences_of h)) is.some (sizes_within units (λ s. slice_index play s) d l h.first h.actions growth) in
    let e : (h.actions - 1) * l ≡ root * spread_sum spread h = omega arith in
    let cost = dealt_at_set units (slice_index x h.before) (λ s. slice_index play s) (λ s. slice_index x s) d (sequences_of h) growth.some
    (share_near play x h is.all is.are) (share_near_below play x h is.all is.are) growth.not_below in
    let sum = share_sum (λ s. slice_index x s) w v (sequences_of h) in
    let whole : v *ℤ pos (nat_sum_over (λ s. slice_index x s) (sequences_of h)) ≡ v *ℤ pos (slice_index x h.before) = ap (λ n. v *ℤ pos n) is.adds in
    omega (arith, ints, cost, sum, whole, size, e)

sets_cost : (root : ℕ) (spread : PlacedSet → ℕ) (play x : List ℕ) (w : ℕ → ℤ) (hs : List PlacedSet) (values : List ℤ)
    → AllZip (λ h value. value ≡ set_value play w h) hs values → All (DealtSet root spread play x w) hs
    → of_values x hs values ≤ℤ (at_sets w x hs +ℤ pos (root * nat_sum_over (spread_sum spread) hs))
sets_cost root spread play x w [] [] h all = omega (arith, ints)
sets_cost root spread play x w [] (v ∷ vs) h all = elim h [ ]
sets_cost root spread play x w (g ∷ gs) [] h all = elim h [ ]
sets_cost root spread play x w (g ∷ gs) (v ∷ vs) h all =
    omega (
      arith,
      ints,
      set_cost root spread play x w g v h.0 (All-head (DealtSet root spread play x w) g gs all),
      sets_cost root spread play x w gs vs h.1 (All-tail (DealtSet root spread play x w) g gs all),
    )

-- the root times what a round is worth is at most what the dealt plan gains, and what the dealing costs
pub round_cost : (sums : ℕ → ℤ) (sets : List InformationSet) (values : List ℤ) (root : ℕ) (spread : PlacedSet → ℕ) (play : List ℕ)
    → AreInOrder sets → 1 ≤ root → GivesAllUnits play sets → AreValues sums play sets values
    → All (λ h. (s t : ℕ) → IsSequenceOf h s → IsSequenceOf h t
    → worth sums (placed sets) values s ≤ℤ (worth sums (placed sets) values t +ℤ pos (root * spread h))) (placed sets)
    → (pos root *ℤ worth sums (placed sets) values 0) ≤ℤ (gain sums sets (plan_of_play sets play root) +ℤ pos (root * dealing_cost spread sets))
round_cost sums sets values root spread play order some whole solves near =
    let x : List ℕ = plan_of_play sets play root in
    let plan = plays_deal_plans sets play root order some in
    let by_shares = plays_deal_by_shares sets play root order in
    let cost = sets_cost root spread play x (worth sums (placed sets) values) (placed sets) values solves
    (λ k d low. record { some = (order k d low).0; all = whole k d low; are = by_shares k d low; adds = plan.each_set k d low; near = near k d low }) in
    omega (arith, ints, cost, two_orders sums sets values root x plan)
