-- Each round follows from the one before it.
use Rattle.std.proofs.Common.{◌≡◌, ℕ, suc, ◌*◌, ◌≤◌, List, length, sym, ◌∙◌, refl, subst, add-one}
use Rattle.std.specs.Prelude.{ℤ}
use Rattle.def_tree.specs.declared.Player.TheVariants.{One, Two}
use Rattle.def_plan.specs.Form.{InformationSet, sequence_count, AreInOrder, SequenceForm}
use Rattle.def_round.specs.Play.{play_of, plan_of_play}
use Rattle.def_round.specs.Round.{own_sum, regrets_after}
use Rattle.def_round.specs.Rounds.{Standing}
use Rattle.def_round.proofs.Plays.{plays_each_set}
use Rattle.def_round.proofs.Regrets.{rounds_are_computed}
use Rattle.def_round.proofs.EachRoundFollows.{deals}
use Rattle.def_plus.specs.Cut.{cut}
use Rattle.def_plus.specs.Multiple.{added_times}
use Rattle.def_plus.specs.Weights.{total_weight}
use Rattle.def_plus.specs.PlusRounds.{next_plus_round, plus_rounds}
use Rattle.def_plus.specs.RoundLaws.{GrowsByTimes, IsCutRound, IsNextPlusRound, PlusRoundsFollow}
use Rattle.def_plus.proofs.Cuts.{cut_regrets_are_exact}
use Rattle.def_plus.proofs.Multiples.{at-added_times, length-added_times}
use Rattle.def_plus.proofs.PlusSums.{are_sums, length-sum, next_plan-is}

grows : (sets : List InformationSet) (regrets : List ℤ) (root weight : ℕ) (before : List ℕ) → AreInOrder sets → 1 ≤ root
    → length before ≡ sequence_count sets
    → GrowsByTimes weight before (plan_of_play sets (play_of sets regrets) root) (added_times before (plan_of_play sets (play_of sets regrets) root) weight)
grows sets regrets root weight before order some long =
    let plan : List ℕ = plan_of_play sets (play_of sets regrets) root in
    let same : length before ≡ length plan = long ∙ sym (next_plan-is sets regrets root order some).all_sequences in
    record { all_sequences = length-added_times before plan weight same; each_number = λ s. at-added_times before plan weight s same }

cuts : (sums : ℕ → ℤ) (play : List ℕ) (sets : List InformationSet) (before : List ℤ) → AreInOrder sets
    → IsCutRound sums play sets before (cut (regrets_after sums play sets before))
cuts sums play sets before order = record {
  changed = regrets_after sums play sets before;
  changes = (rounds_are_computed sums play sets before (regrets_after sums play sets before) order).1 refl;
  all_sequences = cut_regrets_are_exact.all_sequences (regrets_after sums play sets before);
  greater = cut_regrets_are_exact.greater (regrets_after sums play sets before);
}

next : (form : SequenceForm) (root weight : ℕ) (before : Standing) → AreInOrder form.sets_one → AreInOrder form.sets_two
    → 1 ≤ root → length before.sum_one ≡ sequence_count form.sets_one → length before.sum_two ≡ sequence_count form.sets_two
    → IsNextPlusRound form root weight before (next_plus_round form root weight before)
next form root weight before order_one order_two some long_one long_two =
    let play_one : List ℕ = play_of form.sets_one before.regrets_one in
    let play_two : List ℕ = play_of form.sets_two before.regrets_two in
    let plan_one : List ℕ = plan_of_play form.sets_one play_one root in
    let plan_two : List ℕ = plan_of_play form.sets_two play_two root in
    record {
      play_one = play_one;
      play_two = play_two;
      plan_one = plan_one;
      plan_two = plan_two;
      plays_of_one = plays_each_set form.sets_one before.regrets_one;
      plays_of_two = plays_each_set form.sets_two before.regrets_two;
      deals_of_one = deals form.sets_one play_one root order_one some;
      deals_of_two = deals form.sets_two play_two root order_two some;
      sum_of_one = grows form.sets_one before.regrets_one root weight before.sum_one order_one some long_one;
      sum_of_two = grows form.sets_two before.regrets_two root weight before.sum_two order_two some long_two;
      regrets_of_one = cuts (own_sum One form.leaves plan_two) play_one form.sets_one before.regrets_one order_one;
      regrets_of_two = cuts (own_sum Two form.leaves plan_one) play_two form.sets_two before.regrets_two order_two;
    }

-- a run begins with empty regrets and sums, and round n + 1 makes the next standing
pub plus_rounds_follow : PlusRoundsFollow
plus_rounds_follow = record {
  begins = λ form root. record { regrets_of_one = refl; regrets_of_two = refl; sum_of_one = refl; sum_of_two = refl };
  goes_on = λ form root n order_one order_two some.
      let sums = are_sums form root n order_one order_two some in
      subst (λ m. IsNextPlusRound form root m (plus_rounds form root n) (plus_rounds form root m)) (sym (add-one n))
      (next form root (suc n) (plus_rounds form root n) order_one order_two some
      (length-sum form.sets_one (total_weight n * root) (plus_rounds form root n).sum_one sums.of_one)
      (length-sum form.sets_two (total_weight n * root) (plus_rounds form root n).sum_two sums.of_two));
}
