-- A play is in proportion to the positive parts of the regrets.
use Rattle.std.proofs.Common.{◌≡◌, ℕ, ◌+◌, ◌-◌, ◌*◌, ◌/◌, ◌≤◌, ◌<◌, List, map, length, get_or, slice_index, take, arith, ap, sym, ◌∙◌, subst}
use Rattle.std.specs.List.{range_with_len}
use Rattle.std.proofs.lemmas.List.FromFn.{length-map-range_with_len, get_or-map-range_with_len, take-map-range_with_len}
use Rattle.def_sums.specs.Sum.{nat_sum_over}
use Rattle.def_plan.specs.Form.{PlacedSet, placed}
use Rattle.def_round.specs.Shares.{weight_sum, weights_or_ones, shares}
use Rattle.def_round.specs.ShareLaws.{IsWithinOne}
use Rattle.def_round.proofs.SharesLaws.{in_proportion, before_add_up, own_weights}
use Rattle.def_round.specs.Play.{units, positive_part, regret_of, play_of}
use Rattle.def_round.specs.Laws.{PlaysAreInProportion}
use Rattle.def_round.proofs.Plays.{sum_of_map, plays_each_set}

-- a number for each place of a range, where they are shares by the parts there
module _ (n : ℕ) (share part : ℕ → ℕ) (first long : ℕ)
    (are : map share (range_with_len first long) ≡ shares n (map part (range_with_len first long))) where
  weights : List ℕ
  weights = map part (range_with_len first long)

  weighed : (i : ℕ) → i ≤ long → weight_sum (take i weights) ≡ nat_sum_over part (range_with_len first i)
  unfolding weights
  weighed i within = ap weight_sum (take-map-range_with_len part first long i within) ∙ sym (sum_of_map part (range_with_len first i))

  all_weighed : weight_sum weights ≡ nat_sum_over part (range_with_len first long)
  unfolding weights
  all_weighed = sym (sum_of_map part (range_with_len first long))

  given : (i : ℕ) → i ≤ long
      → nat_sum_over share (range_with_len first i) ≡ nat_sum_over (λ x. x) (take i (shares n weights))
  unfolding weights
  given i within =
      sum_of_map share (range_with_len first i) ∙ ap (nat_sum_over (λ x. x)) (sym (take-map-range_with_len share first long i within))
      ∙ ap (λ xs. nat_sum_over (λ x. x) (take i xs)) are

  long_enough : length weights ≡ long
  unfolding weights
  long_enough = length-map-range_with_len part first long

  pub first_ones : (i : ℕ) → i ≤ long → 1 ≤ nat_sum_over part (range_with_len first long)
      → nat_sum_over share (range_with_len first i)
      ≡ n * nat_sum_over part (range_with_len first i) / nat_sum_over part (range_with_len first long)
  first_ones i within some =
      let add = before_add_up n weights i (omega (arith, long_enough)) in
      given i within ∙ add.by_weight (omega (arith, all_weighed))
      ∙ ap (λ p. n * p / weight_sum weights) (weighed i within) ∙ ap (λ w. n * nat_sum_over part (range_with_len first i) / w) all_weighed

  pub first_evenly : (i : ℕ) → i ≤ long → nat_sum_over part (range_with_len first long) ≡ 0
      → nat_sum_over share (range_with_len first i) ≡ n * i / long
  first_evenly i within none =
      let add = before_add_up n weights i (omega (arith, long_enough)) in
      given i within ∙ add.evenly (all_weighed ∙ none) ∙ ap (λ l. n * i / l) long_enough

  pub each_one : (s : ℕ) → first ≤ s → s < first + long → 1 ≤ nat_sum_over part (range_with_len first long)
      → IsWithinOne n (part s) (nat_sum_over part (range_with_len first long)) (share s)
  unfolding weights
  each_one s low high some =
      let i : ℕ = s - first in
      let inside : i < long = omega arith in
      let at : first + i ≡ s = omega arith in
      let own : weights_or_ones weights ≡ weights = own_weights weights (omega (arith, all_weighed)) in
      let is = in_proportion n weights i (omega (arith, long_enough)) in
      let here : get_or (weights_or_ones weights) i 0 ≡ part s = ap (λ ws. get_or ws i 0) own ∙ get_or-map-range_with_len part first long i s 0 inside at in
      let all : weight_sum (weights_or_ones weights) ≡ nat_sum_over part (range_with_len first long) = ap weight_sum own ∙ all_weighed in
      let gets : get_or (shares n weights) i 0 ≡ share s = ap (λ xs. get_or xs i 0) (sym are) ∙ get_or-map-range_with_len share first long i s 0 inside at in
      subst (λ g. IsWithinOne n (part s) (nat_sum_over part (range_with_len first long)) g) gets
      (subst (λ w. IsWithinOne n (part s) w (get_or (shares n weights) i 0)) all
      (subst (λ p. IsWithinOne n p (weight_sum (weights_or_ones weights)) (get_or (shares n weights) i 0)) here is))

-- within one unit an action gets its part of the positive regrets; without any, all are played evenly
pub plays_are_in_proportion : PlaysAreInProportion
plays_are_in_proportion sets regrets k d below =
    let h : PlacedSet = get_or (placed sets) k d in
    let share : ℕ → ℕ = λ s. slice_index (play_of sets regrets) s in
    let part : ℕ → ℕ = λ s. positive_part (regret_of regrets s) in
    let are = (plays_each_set sets regrets).each_set k d below in
    record {
      each_action = λ s inside some. each_one units share part h.first h.actions are s inside.0 inside.1 some;
      first_actions = λ i within some. first_ones units share part h.first h.actions are i within some;
      evenly = λ i within none. first_evenly units share part h.first h.actions are i within none;
    }
