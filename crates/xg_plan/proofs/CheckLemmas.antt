-- The test of a plan, set after set.
use Rattle.std.proofs.Common.{◌≡◌, ℕ, ◌+◌, ◌-◌, ◌<◌, List, length, get_or, take, drop, slice_index, ap, sym, subst, ◌∙◌, arith, add-one}
use Rattle.std.specs.List.{range_with_len}
use Rattle.std.proofs.lemmas.List.{get_or-take, length-take-le}
use Rattle.def_sums.specs.Sum.{nat_sum_over}
use Rattle.def_plan.specs.Form.{InformationSet, PlacedSet, placed, sequence_count, sequences_of}
use Rattle.def_plan.specs.Plan.{AddsUp, HasRoot, IsBadSet, IsPlan}
use Rattle.def_plan.proofs.BadSets.{length-placed}
use Rattle.def_round.specs.Shares.{weight_sum}
use Rattle.def_round.proofs.Plays.{sum_of_map}
use Rattle.xg_plan.proofs.PlaceLemmas.{IsPlacedAs, no_place, part_is}

-- a set's numbers as a part of the list
pub part_sum : (sets : List InformationSet) (plan : List ℕ) (k first actions before : ℕ)
    → IsPlacedAs sets k first actions before → length plan ≡ sequence_count sets
    → (d : PlacedSet)
    → weight_sum (take (first + actions - first) (drop first plan))
    ≡ nat_sum_over (λ s. slice_index plan s) (sequences_of (get_or (placed sets) k d))
part_sum sets plan k first actions before known long d =
    ap weight_sum (part_is plan first actions (omega (arith, known.inside, long))) ∙ sym (sum_of_map (λ s. slice_index plan s) (range_with_len first actions))
    ∙ ap (λ (h : PlacedSet). nat_sum_over (λ s. slice_index plan s) (sequences_of h)) (sym (known.is d))

-- at the sets before set k the numbers add up
abbrev pub AddUpTo : List InformationSet → List ℕ → ℕ → Type 0
AddUpTo sets plan k = (j : ℕ) (d : PlacedSet) → j < k → AddsUp plan (get_or (placed sets) j d)

-- at set k they are the first that don't
pub bad_at : (sets : List InformationSet) (root : ℕ) (plan : List ℕ) (k : ℕ) → HasRoot sets root plan
    → AddUpTo sets plan k → k < length sets
    → ((d : PlacedSet) → ¬ (AddsUp plan (get_or (placed sets) (k + 1 - 1) d))) → IsBadSet sets root plan (k + 1)
bad_at sets root plan k has upto below bad =
    let index : k + 1 - 1 ≡ k = omega arith in
    let few : length (take k (placed sets)) ≡ k = length-take-le k (placed sets) (omega (arith, length-placed 1 sets)) in
    subst (IsBadSet sets root plan) (sym (add-one k)) (
      has,
      below,
      (λ j d low. let earlier : j < k = omega arith in subst (AddsUp plan) (sym (get_or-take k (placed sets) j d earlier)) (upto j d earlier)),
      (λ d. subst (λ i. ¬ (AddsUp plan (get_or (placed sets) i d))) index (bad d)),
    )

-- after all sets it is a plan
pub plan_at_last : (sets : List InformationSet) (root : ℕ) (plan : List ℕ) → HasRoot sets root plan
    → AddUpTo sets plan (length sets) → IsPlan sets root plan
plan_at_last sets root plan has upto = record {
  all_sequences = has.all_sequences;
  some_root = has.some_root;
  root_weight = has.root_weight;
  each_set = λ j d low. upto j d (omega (arith, length-placed 1 sets));
}

-- what has a set at which the numbers don't add up is no plan
pub no_plan_at : (sets : List InformationSet) (root : ℕ) (plan : List ℕ) (k : ℕ) → k < length sets
    → ((d : PlacedSet) → ¬ (AddsUp plan (get_or (placed sets) (k + 1 - 1) d))) → ¬ (IsPlan sets root plan)
no_plan_at sets root plan k below bad is =
    let there : k + 1 - 1 < length (placed sets) = omega (arith, length-placed 1 sets) in
    bad no_place (is.each_set (k + 1 - 1) no_place there)
