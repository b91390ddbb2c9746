-- Sums of plans that grow by a plan a round, and the limits that they stay in.
use Rattle.std.proofs.Common.{◌≡◌, ℕ, zero, suc, ◌+◌, ◌*◌, ◌<◌, ◌≤◌, List, All, length, slice_index, replicate, refl, ap, ◌∙◌, subst, sym, arith}
use Rattle.std.proofs.Math.Nat.{mul-le-mul}
use Rattle.def_sums.specs.Limits.{most_root, most_rounds, most_scale}
use Rattle.def_plan.specs.Form.{InformationSet, SequenceForm, sequence_count}
use Rattle.def_plan.specs.Plan.{IsPlan, IsPlanOrCleared}
use Rattle.def_plan.proofs.Adding.{length-added}
use Rattle.def_plan.proofs.SizeLaws.{plan-below_root}
use Rattle.std.proofs.lemmas.List.{get_or_default}
use Rattle.xg_jobs.specs.Rows.{AreNumbersOf}
use Rattle.def_plus.specs.declared.Variant.{Variant}
use Rattle.def_plus.specs.declared.Variant.TheVariants.{Plain, Plus}
use Rattle.def_plus.specs.Variants.{rounds_of, weight_of_rounds, most_rounds_of, most_scale_of}
use Rattle.def_plus.proofs.Multiples.{length-added_times}
use Rattle.def_plus.proofs.WeightLaws.{next_weight, rounds_weigh_their_numbers}
use Rattle.def_reply.specs.Offers.{IsFair}
use Rattle.def_run.specs.Run.{SumsPlans, offer_in}
use Rattle.def_plus_run.specs.VariantRun.{run_of}
use Rattle.def_plus_run.proofs.VariantRuns.{variant_offers_are_fair, variant_runs_sum_plans}
use Rattle.xg_plan.specs.Plan.{AreOfOneForm}
use Rattle.xg_engine.specs.Evaluations.{AreSumsAfter}
use Rattle.xg_engine.specs.Players.{CanGrow, IsSmallPlan, IsSoundForm, StandAfter, sum_with, times_of}
use Rattle.xg_engine.specs.State.{AreWithinLimits, AreWithinLimitsOf}
use Rattle.def_command.specs.declared.Settings.{Settings}
use Rattle.xg_engine.specs.declared.players.Players.{Players}

first_of_zeros : (n : ℕ) → 1 ≤ n → slice_index (replicate n 0) 0 ≡ 0
first_of_zeros zero some = absurd (omega arith)
first_of_zeros (suc n) some = refl

root_of : (sets : List InformationSet) (root : ℕ) (plan : List ℕ) → IsPlanOrCleared sets root plan
    → slice_index plan 0 ≡ root
root_of sets zero plan is =
    ap (λ p. slice_index p 0) is ∙ first_of_zeros (sequence_count sets) (omega arith)
root_of sets (suc root) plan is = is.root_weight

plan_or_cleared : (sets : List InformationSet) (root : ℕ) (plan : List ℕ) → IsPlan sets root plan
    → IsPlanOrCleared sets root plan
plan_or_cleared sets zero plan is = absurd (omega (arith, is.some_root))
plan_or_cleared sets (suc root) plan is = is

module _ (sets : List InformationSet) (times scale : ℕ) (sums plan : List ℕ) (g : CanGrow sets (times * scale) sums)
    (is : IsPlan sets scale plan) where
  -- both are plans of one form, or nothing yet
  pub one_form : AreOfOneForm sums plan
  one_form = record {
    sets = sets;
    order = g.order;
    first = subst (λ r. IsPlanOrCleared sets r sums) (sym (root_of sets g.root sums g.is_sum)) g.is_sum;
    second = subst (λ r. IsPlanOrCleared sets r plan) (sym is.root_weight) (plan_or_cleared sets scale plan is);
  }

  -- the roots of the sum and so many times that of the plan are together within the limit of roots
  pub within_roots : slice_index sums 0 + times * slice_index plan 0 ≤ most_root
  within_roots =
      let of_sum : slice_index sums 0 ≡ g.root = root_of sets g.root sums g.is_sum in
      let of_plan : times * slice_index plan 0 ≡ times * scale = ap (λ r. times * r) is.root_weight in
      omega (arith, of_sum, of_plan, g.limit)

each_small : (sets : List InformationSet) (plan : List ℕ) → IsSmallPlan sets plan → All (λ n. n ≤ most_root) plan
each_small sets plan is k d low =
    let read = get_or_default plan k d 0 low in
    omega (arith, plan-below_root sets is.root plan is.order is.is_plan k, is.limit, read)

-- the numbers that rows are made from
pub numbers_of : (form : SequenceForm) (one two : List ℕ) → IsSmallPlan form.sets_one one
    → IsSmallPlan form.sets_two two → AreNumbersOf form one two
numbers_of form one two of_one of_two = record {
  count_one = of_one.is_plan.all_sequences;
  count_two = of_two.is_plan.all_sequences;
  small_one = each_small form.sets_one one of_one;
  small_two = each_small form.sets_two two of_two;
}

-- a sum keeps its length
pub length-sum_with : (variant : Variant) (round : ℕ) (sum plan : List ℕ) → length sum ≡ length plan
    → length (sum_with variant round sum plan) ≡ length sum
length-sum_with Plain round sum plan same = length-added sum plan same
length-sum_with Plus round sum plan same = length-added_times sum plan round same

-- ---- limits
-- the limits of each variant are within those of plain rounds
pub scale_within : (variant : Variant) (scale : ℕ) → scale ≤ most_scale_of variant → scale ≤ most_scale
scale_within Plain scale small = small
scale_within Plus scale small = omega (arith, small)

pub rounds_within : (variant : Variant) (n : ℕ) → n ≤ most_rounds_of variant → n ≤ most_rounds
rounds_within Plain n few = few
rounds_within Plus n few = omega (arith, few)

pub limits_within : (variant : Variant) (settings : Settings) → AreWithinLimitsOf variant settings → AreWithinLimits settings
limits_within variant settings limits = record {
  few_rounds = rounds_within variant settings.rounds limits.few_rounds;
  some_every = limits.some_every;
  small_every = limits.small_every;
  some_scale = limits.some_scale;
  small_scale = scale_within variant settings.scale limits.small_scale;
}

-- and those of plain rounds are the same
pub plain_limits : (settings : Settings) → AreWithinLimits settings → AreWithinLimitsOf Plain settings
plain_limits settings limits = record {
  few_rounds = limits.few_rounds;
  some_every = limits.some_every;
  small_every = limits.small_every;
  some_scale = limits.some_scale;
  small_scale = limits.small_scale;
}

-- n rounds of plans within the scale have sums with a root within the limit
pub sum_within : (variant : Variant) (n root : ℕ) → n ≤ most_rounds_of variant → root ≤ most_scale_of variant
    → weight_of_rounds variant n * root ≤ most_root
sum_within Plain n root few small = mul-le-mul few small
sum_within Plus n root few small = rounds_weigh_their_numbers.within_limits root n small few

-- the next round weighs as much more as its plan counts
weighs_more : (variant : Variant) (n : ℕ) → weight_of_rounds variant (n + 1) ≡ weight_of_rounds variant n + times_of variant (n + 1)
weighs_more Plain n = refl
weighs_more Plus n = next_weight n

next_within : (variant : Variant) (n root : ℕ) → n < most_rounds_of variant → root ≤ most_scale_of variant
    → weight_of_rounds variant n * root + times_of variant (n + 1) * root ≤ most_root
next_within variant n root few small =
    let more : n + 1 ≤ most_rounds_of variant = omega (arith, few) in
    let limit : weight_of_rounds variant (n + 1) * root ≤ most_root = sum_within variant (n + 1) root more small in
    let same : weight_of_rounds variant (n + 1) * root ≡ (weight_of_rounds variant n + times_of variant (n + 1)) * root =
    ap (λ w. w * root) (weighs_more variant n) in
    omega (arith, limit, same)

-- ---- sums
-- before the first round nothing is in the sums
no_root : (root : ℕ) → 0 ≡ 0 * root
no_root root = omega arith

begins_one : (variant : Variant) (form : SequenceForm) (root : ℕ)
    → IsPlanOrCleared form.sets_one (weight_of_rounds variant 0 * root) (rounds_of variant form root 0).sum_one
begins_one Plain form root =
    subst (λ r. IsPlanOrCleared form.sets_one r (rounds_of Plain form root 0).sum_one) (no_root root) refl
begins_one Plus form root =
    subst (λ r. IsPlanOrCleared form.sets_one r (rounds_of Plus form root 0).sum_one) (no_root root) refl

begins_two : (variant : Variant) (form : SequenceForm) (root : ℕ)
    → IsPlanOrCleared form.sets_two (weight_of_rounds variant 0 * root) (rounds_of variant form root 0).sum_two
begins_two Plain form root =
    subst (λ r. IsPlanOrCleared form.sets_two r (rounds_of Plain form root 0).sum_two) (no_root root) refl
begins_two Plus form root =
    subst (λ r. IsPlanOrCleared form.sets_two r (rounds_of Plus form root 0).sum_two) (no_root root) refl

module _ (variant : Variant) (form : SequenceForm) (root : ℕ) (sound : IsSoundForm form) (some : 1 ≤ root)
    (small : root ≤ most_scale_of variant) where
  sums : SumsPlans form root (run_of variant form root)
  sums = variant_runs_sum_plans variant form root sound.order_one sound.order_two some

  is_sum_one : (n : ℕ) → IsPlanOrCleared form.sets_one (weight_of_rounds variant n * root) (rounds_of variant form root n).sum_one
  is_sum_one zero = begins_one variant form root
  is_sum_one (suc n) =
      plan_or_cleared form.sets_one (weight_of_rounds variant (suc n) * root) (rounds_of variant form root (suc n)).sum_one
      (sums.of_one (suc n) (omega arith))

  is_sum_two : (n : ℕ) → IsPlanOrCleared form.sets_two (weight_of_rounds variant n * root) (rounds_of variant form root n).sum_two
  is_sum_two zero = begins_two variant form root
  is_sum_two (suc n) =
      plan_or_cleared form.sets_two (weight_of_rounds variant (suc n) * root) (rounds_of variant form root (suc n)).sum_two
      (sums.of_two (suc n) (omega arith))

  -- after fewer rounds than the limit both sums can grow
  pub can_grow_one : (n : ℕ) → n < most_rounds_of variant
      → CanGrow form.sets_one (times_of variant (n + 1) * root) (rounds_of variant form root n).sum_one
  can_grow_one n few = record {
    root = weight_of_rounds variant n * root;
    order = sound.order_one;
    is_sum = is_sum_one n;
    limit = next_within variant n root few small;
  }

  -- after fewer rounds than the limit the sum of player two's plans can grow by one more
  pub can_grow_two : (n : ℕ) → n < most_rounds_of variant
      → CanGrow form.sets_two (times_of variant (n + 1) * root) (rounds_of variant form root n).sum_two
  can_grow_two n few = record {
    root = weight_of_rounds variant n * root;
    order = sound.order_two;
    is_sum = is_sum_two n;
    limit = next_within variant n root few small;
  }

  -- after a round they are sums of plans
  pub sums_after : (n : ℕ) → 1 ≤ n → n ≤ most_rounds_of variant
      → AreSumsAfter variant form n (rounds_of variant form root n).sum_one (rounds_of variant form root n).sum_two
  sums_after n first few =
      let fair : IsFair form 0 (offer_in form (run_of variant form root) n) =
      variant_offers_are_fair variant form root n sound.order_one sound.order_two some small first few 0 (omega (arith, first)) in
      record {
        scale = root;
        few_rounds = fair.few_rounds;
        some_weight = fair.some_divisor;
        small_weight = fair.small_divisor;
        some_scale = some;
        small_root = sum_within variant n root few small;
        plan_one = sums.of_one n first;
        plan_two = sums.of_two n first;
      }

  -- players who stand as after n rounds, from one up to the limit, have sums of plans over n rounds
  pub sums_of_players : (n : ℕ) (players : Players) → StandAfter variant form root n players → 1 ≤ n
      → n ≤ most_rounds_of variant → AreSumsAfter variant form n players.one.sum players.two.sum
  sums_of_players n players stand first few =
      subst (λ one. AreSumsAfter variant form n one players.two.sum) (sym stand.one.sums_are)
      (subst (λ two. AreSumsAfter variant form n (rounds_of variant form root n).sum_one two) (sym stand.two.sums_are)
      (sums_after n first few))
