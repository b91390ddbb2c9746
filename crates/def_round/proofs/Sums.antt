-- The sums of the plans after some rounds.
use Rattle.std.proofs.Common.{◌≡◌, ℕ, zero, suc, ◌+◌, ◌*◌, List, replicate, arith, ap, sym, ◌∙◌, subst}
use Rattle.def_plan.specs.Form.{InformationSet, sequence_count}
use Rattle.def_plan.specs.Plan.{IsPlan, added}
use Rattle.def_plan.proofs.Adding.{zeros-added, added-is_plan}
use Rattle.def_round.specs.Play.{play_of, plan_of_play}
use Rattle.def_round.specs.Rounds.{Standing, opening, rounds}
use Rattle.def_round.specs.Laws.{AreSumsOfPlans, RoundsSumToPlans}
use Rattle.def_round.proofs.Plays.{plays_deal_plans}

-- a first plan is the sum of itself
first_sum : (sets : List InformationSet) (root : ℕ) (plan : List ℕ) → IsPlan sets root plan
    → IsPlan sets (1 * root) (added (replicate (sequence_count sets) 0) plan)
first_sum sets root plan is =
    let same : added (replicate (sequence_count sets) 0) plan ≡ plan = ap (λ n. added (replicate n 0) plan) (sym is.all_sequences) ∙ zeros-added plan in
    let once : 1 * root ≡ root = omega arith in
    subst (λ r. IsPlan sets r (added (replicate (sequence_count sets) 0) plan)) (sym once) (subst (λ x. IsPlan sets root x) (sym same) is)

next_sum : (sets : List InformationSet) (n root : ℕ) (sum plan : List ℕ) → IsPlan sets (n * root) sum
    → IsPlan sets root plan → IsPlan sets (suc n * root) (added sum plan)
next_sum sets n root sum plan so_far is =
    let more : n * root + root ≡ suc n * root = omega arith in
    subst (λ r. IsPlan sets r (added sum plan)) more (added-is_plan sets (n * root) root sum plan so_far is)

-- after n rounds both sums are plans, of n times the root
pub rounds_sum_to_plans : RoundsSumToPlans
rounds_sum_to_plans form root zero order_one order_two some none = absurd (omega arith)
rounds_sum_to_plans form root (suc zero) order_one order_two some none = record {
  of_one = first_sum form.sets_one root (plan_of_play form.sets_one (play_of form.sets_one (opening form).regrets_one) root)
      (plays_deal_plans form.sets_one (play_of form.sets_one (opening form).regrets_one) root order_one some);
  of_two = first_sum form.sets_two root (plan_of_play form.sets_two (play_of form.sets_two (opening form).regrets_two) root)
      (plays_deal_plans form.sets_two (play_of form.sets_two (opening form).regrets_two) root order_two some);
}
rounds_sum_to_plans form root (suc (suc n)) order_one order_two some more =
    let before : Standing = rounds form root (suc n) in
    let so_far : AreSumsOfPlans form root (suc n) = rounds_sum_to_plans form root (suc n) order_one order_two some (omega arith) in
    record {
      of_one = next_sum form.sets_one (suc n) root before.sum_one (plan_of_play form.sets_one (play_of form.sets_one before.regrets_one) root) so_far.of_one
          (plays_deal_plans form.sets_one (play_of form.sets_one before.regrets_one) root order_one some);
      of_two = next_sum form.sets_two (suc n) root before.sum_two (plan_of_play form.sets_two (play_of form.sets_two before.regrets_two) root) so_far.of_two
          (plays_deal_plans form.sets_two (play_of form.sets_two before.regrets_two) root order_two some);
    }
