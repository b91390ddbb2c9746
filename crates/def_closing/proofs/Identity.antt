-- What a round adds to a plan's regret: what the plan gains from the round's sums, less its root times what the round is
-- worth. No rounding stands in it.
use Rattle.std.proofs.Common.{◌≡◌, ℕ, List, [], ◌∷◌, slice_index, All, arith, ap, ◌∙◌}
use Rattle.std.specs.Prelude.{ℤ, pos, ◌+ℤ◌, ◌-ℤ◌, ◌*ℤ◌, neg_ℤ}
use Rattle.std.specs.List.{AllZip}
use Rattle.std.proofs.lemmas.Int.{ints}
use Rattle.std.proofs.lemmas.List.Elements.{All-head, All-tail}
use Rattle.def_sums.specs.Sum.{sum_over, nat_sum_over}
use Rattle.def_sums.proofs.RingLaws.{+ℤ-*ℤ, *ℤ-+ℤ, neg-*ℤ, zero-*ℤ}
use Rattle.def_plan.specs.Form.{InformationSet, PlacedSet, placed, sequences_of}
use Rattle.def_plan.specs.Plan.{AddsUp, IsPlan}
use Rattle.def_plan.specs.Payoff.{gain, worth}
use Rattle.def_plan.proofs.Regroup.{over_sequences}
use Rattle.def_plan.proofs.Duality.{at_sets, of_values, two_orders}
use Rattle.def_round.specs.Play.{regret_of}
use Rattle.def_round.specs.Round.{AddsRegrets}

-- at one set
one_grows : (a b w v : ℤ) (n : ℕ) → a ≡ b +ℤ (w -ℤ v) → a *ℤ pos n +ℤ v *ℤ pos n ≡ b *ℤ pos n +ℤ w *ℤ pos n
one_grows a b w v n e =
    let whole : a *ℤ pos n ≡ (b +ℤ (w -ℤ v)) *ℤ pos n = ap (λ z. z *ℤ pos n) e in
    omega (arith, ints, whole, +ℤ-*ℤ b (w -ℤ v) (pos n), +ℤ-*ℤ w (neg_ℤ v) (pos n), neg-*ℤ v (pos n))

set_grows : (after before w : ℕ → ℤ) (v : ℤ) (x : List ℕ) (xs : List ℕ)
    → All (λ s. after s ≡ before s +ℤ (w s -ℤ v)) xs
    → sum_over (λ s. after s *ℤ pos (slice_index x s)) xs +ℤ v *ℤ pos (nat_sum_over (λ s. slice_index x s) xs)
    ≡ sum_over (λ s. before s *ℤ pos (slice_index x s)) xs +ℤ sum_over (λ s. w s *ℤ pos (slice_index x s)) xs
set_grows after before w v x [] h = omega (arith, ints)
set_grows after before w v x (s ∷ xs) h =
    omega (
      arith,
      ints,
      one_grows (after s) (before s) (w s) v (slice_index x s) (All-head (λ s. after s ≡ before s +ℤ (w s -ℤ v)) s xs h),
      set_grows after before w v x xs (All-tail (λ s. after s ≡ before s +ℤ (w s -ℤ v)) s xs h),
      *ℤ-+ℤ v (pos (slice_index x s)) (pos (nat_sum_over (λ s. slice_index x s) xs)),
    )

-- at all sets
sets_grow : (after before w : ℕ → ℤ) (x : List ℕ) (hs : List PlacedSet) (values : List ℤ)
    → AllZip (λ h value. All (λ s. after s ≡ before s +ℤ (w s -ℤ value)) (sequences_of h)) hs values
    → All (AddsUp x) hs
    → at_sets after x hs +ℤ of_values x hs values ≡ at_sets before x hs +ℤ at_sets w x hs
sets_grow after before w x [] [] h sums = omega (arith, ints)
sets_grow after before w x [] (v ∷ vs) h sums = elim h [ ]
sets_grow after before w x (g ∷ gs) [] h sums = elim h [ ]
sets_grow after before w x (g ∷ gs) (v ∷ vs) h sums =
    let here = set_grows after before w v x (sequences_of g) h.0 in
    let adds : v *ℤ pos (nat_sum_over (λ s. slice_index x s) (sequences_of g)) ≡ v *ℤ pos (slice_index x g.before) =
    ap (λ n. v *ℤ pos n) (All-head (AddsUp x) g gs sums) in
    omega (arith, ints, here, adds, sets_grow after before w x gs vs h.1 (All-tail (AddsUp x) g gs sums))

-- the empty sequence has no regret
pub no_regret_of_empty : (regrets : List ℤ) (sets : List InformationSet) (x : List ℕ) → regret_of regrets 0 ≡ pos 0
    → gain (regret_of regrets) sets x ≡ at_sets (regret_of regrets) x (placed sets)
no_regret_of_empty regrets sets x none =
    let whole = over_sequences (λ s. regret_of regrets s *ℤ pos (slice_index x s)) sets in
    let nothing : regret_of regrets 0 *ℤ pos (slice_index x 0) ≡ pos 0 = ap (λ z. z *ℤ pos (slice_index x 0)) none ∙ zero-*ℤ (pos (slice_index x 0)) in
    omega (arith, ints, whole, nothing)

-- what a round adds
pub regret_identity : (sums : ℕ → ℤ) (sets : List InformationSet) (values before after : List ℤ) (root : ℕ) (x : List ℕ)
    → AddsRegrets sums sets values before after → regret_of before 0 ≡ pos 0 → IsPlan sets root x
    → gain (regret_of after) sets x +ℤ pos root *ℤ worth sums (placed sets) values 0 ≡ gain (regret_of before) sets x +ℤ gain sums sets x
regret_identity sums sets values before after root x adds none plan =
    omega (
      arith,
      ints,
      no_regret_of_empty after sets x adds.none_of_empty,
      no_regret_of_empty before sets x none,
      two_orders sums sets values root x plan,
      sets_grow (regret_of after) (regret_of before) (worth sums (placed sets) values) x (placed sets) values adds.each_set plan.each_set,
    )
