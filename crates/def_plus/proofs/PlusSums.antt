-- The sums of the plans after some rounds.
use Rattle.std.proofs.Common.{◌≡◌, ℕ, zero, suc, ◌+◌, ◌-◌, ◌*◌, ◌≤◌, List, length, slice_index, replicate, arith, ap, sym, ◌∙◌, refl, subst, add-one}
use Rattle.std.specs.Prelude.{ℤ}
use Rattle.std.specs.List.{range_with_len}
use Rattle.std.proofs.Math.Nat.{mul-le-mul}
use Rattle.def_sums.specs.Sum.{nat_sum_over}
use Rattle.def_tree.specs.declared.Player.TheVariants.{One, Two}
use Rattle.def_plan.specs.Form.{InformationSet, sequence_count, AreInOrder, SequenceForm}
use Rattle.def_plan.specs.Plan.{IsPlan, IsPlanOrCleared, cleared}
use Rattle.def_plan.proofs.Adding.{cleared_plans_add_nothing}
use Rattle.def_round.specs.Play.{play_of, plan_of_play}
use Rattle.def_round.proofs.Plays.{plays_deal_plans}
use Rattle.def_plus.specs.Multiple.{added_times}
use Rattle.def_plus.specs.Weights.{total_weight}
use Rattle.def_plus.specs.PlusRounds.{plus_rounds, plan_after}
use Rattle.def_plus.specs.RoundLaws.{PlusRoundsSumToPlans, SumsWeighThePlans}
use Rattle.def_plus.proofs.Multiples.{at-added_times, sum-is}
use Rattle.def_plus.proofs.WeightLaws.{next_weight, one_more, weights_rise}

plan_or_cleared : (sets : List InformationSet) (root : ℕ) (plan : List ℕ) → IsPlan sets root plan
    → IsPlanOrCleared sets root plan
plan_or_cleared sets zero plan p = let some = p.some_root in absurd (omega arith)
plan_or_cleared sets (suc root) plan p = p

is_plan : (sets : List InformationSet) (root : ℕ) (plan : List ℕ) → 1 ≤ root → IsPlanOrCleared sets root plan
    → IsPlan sets root plan
is_plan sets zero plan some p = absurd (omega arith)
is_plan sets (suc root) plan some p = p

-- the plan that a player makes next
pub next_plan-is : (sets : List InformationSet) (regrets : List ℤ) (root : ℕ) → AreInOrder sets → 1 ≤ root
    → IsPlan sets root (plan_of_play sets (play_of sets regrets) root)
next_plan-is sets regrets root order some = plays_deal_plans sets (play_of sets regrets) root order some

next_sum : (sets : List InformationSet) (regrets : List ℤ) (root n : ℕ) (sum : List ℕ) → AreInOrder sets → 1 ≤ root
    → IsPlanOrCleared sets (total_weight n * root) sum
    → IsPlanOrCleared sets (total_weight (suc n) * root) (added_times sum (plan_of_play sets (play_of sets regrets) root) (suc n))
next_sum sets regrets root n sum order some so_far =
    let plan : List ℕ = plan_of_play sets (play_of sets regrets) root in
    let weight : total_weight (suc n) ≡ total_weight n + suc n = ap total_weight (sym (add-one n)) ∙ next_weight n ∙ ap (λ k. total_weight n + k) (add-one n) in
    let root_is : total_weight n * root + suc n * root ≡ total_weight (suc n) * root = omega (arith, ap (λ w. w * root) weight) in
    subst (λ r. IsPlanOrCleared sets r (added_times sum plan (suc n))) root_is
    (sum-is sets (total_weight n * root) root sum plan (suc n) so_far (plan_or_cleared sets root plan (next_plan-is sets regrets root order some)))

first_sum : (sets : List InformationSet) (root : ℕ) → IsPlanOrCleared sets (total_weight 0 * root) (cleared sets)
first_sum sets root =
    let none : total_weight 0 * root ≡ 0 = omega arith in
    subst (λ r. IsPlanOrCleared sets r (cleared sets)) (sym none) refl

-- before the first round the sums are cleared, and after each they are plans, of what the rounds weigh times the root
pub record AreSums (form : SequenceForm) (root n : ℕ) : Type 0 where
  pub of_one : IsPlanOrCleared form.sets_one (total_weight n * root) (plus_rounds form root n).sum_one
  pub of_two : IsPlanOrCleared form.sets_two (total_weight n * root) (plus_rounds form root n).sum_two

pub are_sums : (form : SequenceForm) (root n : ℕ) → AreInOrder form.sets_one → AreInOrder form.sets_two → 1 ≤ root
    → AreSums form root n
are_sums form root zero order_one order_two some =
    record { of_one = first_sum form.sets_one root; of_two = first_sum form.sets_two root }
are_sums form root (suc n) order_one order_two some =
    let so_far : AreSums form root n = are_sums form root n order_one order_two some in
    record {
      of_one = next_sum form.sets_one (plus_rounds form root n).regrets_one root n (plus_rounds form root n).sum_one order_one some so_far.of_one;
      of_two = next_sum form.sets_two (plus_rounds form root n).regrets_two root n (plus_rounds form root n).sum_two order_two some so_far.of_two;
    }

-- after n rounds both sums are plans, of 1 + 2 + .. + n times the root
pub plus_rounds_sum_to_plans : PlusRoundsSumToPlans
plus_rounds_sum_to_plans form root n order_one order_two some_root some =
    let sums = are_sums form root n order_one order_two some_root in
    let weight = weights_rise 1 n some in
    let some_weight : 1 ≤ total_weight n * root = mul-le-mul weight some_root in
    record {
      of_one = is_plan form.sets_one (total_weight n * root) (plus_rounds form root n).sum_one some_weight sums.of_one;
      of_two = is_plan form.sets_two (total_weight n * root) (plus_rounds form root n).sum_two some_weight sums.of_two;
    }

-- a number for each sequence
pub length-sum : (sets : List InformationSet) (root : ℕ) (sum : List ℕ) → IsPlanOrCleared sets root sum
    → length sum ≡ sequence_count sets
length-sum sets root sum is = (cleared_plans_add_nothing.root sets root sum is).0

-- ---- the plans in the sums
pub zeros : (n s : ℕ) → slice_index (replicate n 0) s ≡ 0
zeros zero zero = refl
zeros zero (suc s) = refl
zeros (suc n) zero = refl
zeros (suc n) (suc s) = zeros n s

grown : (sets : List InformationSet) (regrets : List ℤ) (root n s : ℕ) (sum : List ℕ) (plan_in : ℕ → List ℕ) → AreInOrder sets → 1 ≤ root
    → length sum ≡ sequence_count sets
    → plan_in n ≡ plan_of_play sets (play_of sets regrets) root
    → slice_index sum s ≡ nat_sum_over (λ k. k * slice_index (plan_in (k - 1)) s) (range_with_len 1 n)
    → slice_index (added_times sum (plan_of_play sets (play_of sets regrets) root) (suc n)) s
    ≡ nat_sum_over (λ k. k * slice_index (plan_in (k - 1)) s) (range_with_len 1 (suc n))
grown sets regrets root n s sum plan_in order some long is so_far =
    let plan : List ℕ = plan_of_play sets (play_of sets regrets) root in
    let term : ℕ → ℕ = λ k. k * slice_index (plan_in (k - 1)) s in
    let index : n + 1 - 1 ≡ n = omega arith in
    let last : (n + 1) * slice_index (plan_in (n + 1 - 1)) s ≡ suc n * slice_index plan s =
    ap (λ k. (n + 1) * slice_index (plan_in k) s) index ∙ ap (λ p. (n + 1) * slice_index p s) is ∙ ap (λ k. k * slice_index plan s) (add-one n) in
    at-added_times sum plan (suc n) s (long ∙ sym (next_plan-is sets regrets root order some).all_sequences)
    ∙ ap (λ a. a + suc n * slice_index plan s) so_far
    ∙ ap (λ b. nat_sum_over term (range_with_len 1 n) + b) (sym last)
    ∙ sym (one_more term n)
    ∙ ap (λ m. nat_sum_over term (range_with_len 1 m)) (add-one n)

-- a number of a sum is made of the plans of all rounds, each so many times as its round's number
pub sums_weigh_the_plans : SumsWeighThePlans
sums_weigh_the_plans form One root zero s order_one order_two some = zeros (sequence_count form.sets_one) s
sums_weigh_the_plans form One root (suc n) s order_one order_two some =
    grown form.sets_one (plus_rounds form root n).regrets_one root n s (plus_rounds form root n).sum_one (plan_after form One root) order_one some
    (length-sum form.sets_one (total_weight n * root) (plus_rounds form root n).sum_one (are_sums form root n order_one order_two some).of_one) refl
    (sums_weigh_the_plans form One root n s order_one order_two some)
sums_weigh_the_plans form Two root zero s order_one order_two some = zeros (sequence_count form.sets_two) s
sums_weigh_the_plans form Two root (suc n) s order_one order_two some =
    grown form.sets_two (plus_rounds form root n).regrets_two root n s (plus_rounds form root n).sum_two (plan_after form Two root) order_two some
    (length-sum form.sets_two (total_weight n * root) (plus_rounds form root n).sum_two (are_sums form root n order_one order_two some).of_two) refl
    (sums_weigh_the_plans form Two root n s order_one order_two some)
