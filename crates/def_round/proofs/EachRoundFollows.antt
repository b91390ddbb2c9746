-- Each round follows from the one before it.
use Rattle.std.proofs.Common.{◌≡◌, ℕ, zero, suc, ◌≤◌, List, length, sym, ◌∙◌, refl, subst, add-one}
use Rattle.std.proofs.lemmas.List.{length-replicate}
use Rattle.def_tree.specs.declared.Player.TheVariants.{One, Two}
use Rattle.def_plan.specs.Form.{InformationSet, sequence_count, AreInOrder, SequenceForm}
use Rattle.def_plan.specs.Plan.{added}
use Rattle.def_plan.proofs.Adding.{length-added, at-added}
use Rattle.def_round.specs.Play.{play_of, plan_of_play}
use Rattle.def_round.specs.Round.{own_sum, regrets_after}
use Rattle.def_round.specs.Rounds.{Standing, next_round, rounds}
use Rattle.def_round.specs.Laws.{GrowsBy, IsPlanOfPlay, IsNextRound, RoundsFollow}
use Rattle.def_round.proofs.Plays.{plays_each_set, plays_deal_plans, plays_deal_by_shares}
use Rattle.def_round.proofs.Regrets.{rounds_are_computed}

-- both sums have a number for each sequence
record HaveAll (form : SequenceForm) (standing : Standing) : Type 0 where
  of_one : length standing.sum_one ≡ sequence_count form.sets_one
  of_two : length standing.sum_two ≡ sequence_count form.sets_two

plan_length : (sets : List InformationSet) (play : List ℕ) (root : ℕ) → AreInOrder sets → 1 ≤ root
    → length (plan_of_play sets play root) ≡ sequence_count sets
plan_length sets play root order some = (plays_deal_plans sets play root order some).all_sequences

have_all : (form : SequenceForm) (root n : ℕ) → AreInOrder form.sets_one → AreInOrder form.sets_two → 1 ≤ root
    → HaveAll form (rounds form root n)
have_all form root zero order_one order_two some =
    record { of_one = length-replicate (sequence_count form.sets_one) 0; of_two = length-replicate (sequence_count form.sets_two) 0 }
have_all form root (suc n) order_one order_two some =
    let before : Standing = rounds form root n in
    let so_far = have_all form root n order_one order_two some in
    let one = plan_length form.sets_one (play_of form.sets_one before.regrets_one) root order_one some in
    let two = plan_length form.sets_two (play_of form.sets_two before.regrets_two) root order_two some in
    record {
      of_one = length-added before.sum_one (plan_of_play form.sets_one (play_of form.sets_one before.regrets_one) root) (so_far.of_one ∙ sym one)
          ∙ so_far.of_one;
      of_two = length-added before.sum_two (plan_of_play form.sets_two (play_of form.sets_two before.regrets_two) root) (so_far.of_two ∙ sym two)
          ∙ so_far.of_two;
    }

grows : (before plan : List ℕ) (n : ℕ) → length before ≡ n → length plan ≡ n → GrowsBy before plan (added before plan)
grows before plan n e f = record { all_sequences = length-added before plan (e ∙ sym f); each_number = λ s. at-added before plan s (e ∙ sym f) }

pub deals : (sets : List InformationSet) (play : List ℕ) (root : ℕ) → AreInOrder sets → 1 ≤ root
    → IsPlanOfPlay sets play root (plan_of_play sets play root)
deals sets play root order some = record { is_plan = plays_deal_plans sets play root order some; each_set = plays_deal_by_shares sets play root order }

next : (form : SequenceForm) (root : ℕ) (before : Standing) → AreInOrder form.sets_one → AreInOrder form.sets_two
    → 1 ≤ root → HaveAll form before
    → IsNextRound form root before (next_round form root before)
next form root before order_one order_two some all =
    let play_one : List ℕ = play_of form.sets_one before.regrets_one in
    let play_two : List ℕ = play_of form.sets_two before.regrets_two in
    let plan_one : List ℕ = plan_of_play form.sets_one play_one root in
    let plan_two : List ℕ = plan_of_play form.sets_two play_two root in
    record {
      play_one = play_one;
      play_two = play_two;
      plan_one = plan_one;
      plan_two = plan_two;
      plays_of_one = plays_each_set form.sets_one before.regrets_one;
      plays_of_two = plays_each_set form.sets_two before.regrets_two;
      deals_of_one = deals form.sets_one play_one root order_one some;
      deals_of_two = deals form.sets_two play_two root order_two some;
      sum_of_one = grows before.sum_one plan_one (sequence_count form.sets_one) all.of_one (plan_length form.sets_one play_one root order_one some);
      sum_of_two = grows before.sum_two plan_two (sequence_count form.sets_two) all.of_two (plan_length form.sets_two play_two root order_two some);
      regrets_of_one = (rounds_are_computed (own_sum One form.leaves plan_two) play_one form.sets_one before.regrets_one
          (regrets_after (own_sum One form.leaves plan_two) play_one form.sets_one before.regrets_one) order_one).1 refl;
      regrets_of_two = (rounds_are_computed (own_sum Two form.leaves plan_one) play_two form.sets_two before.regrets_two
          (regrets_after (own_sum Two form.leaves plan_one) play_two form.sets_two before.regrets_two) order_two).1 refl;
    }

-- a run begins with empty regrets and sums, and each standing follows from the last by one round
pub rounds_follow : RoundsFollow
rounds_follow = record {
  begins = λ form root. record { regrets_of_one = refl; regrets_of_two = refl; sum_of_one = refl; sum_of_two = refl };
  goes_on = λ form root n order_one order_two some.
      subst (λ m. IsNextRound form root (rounds form root n) (rounds form root m)) (sym (add-one n))
      (next form root (rounds form root n) order_one order_two some (have_all form root n order_one order_two some));
}
