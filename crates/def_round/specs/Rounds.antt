-- Rounds: both players play by their regrets at once, and learn from the same two plans. The sums of the plans are the
-- average strategies in whole numbers (Zinkevich, Johanson, Bowling and Piccione 2007).
use Rattle.std.specs.Prelude.{ℕ, zero, suc, ℤ, pos, List, replicate}
use Rattle.def_tree.specs.declared.Player.TheVariants.{One, Two}
use Rattle.def_plan.specs.Form.{SequenceForm, sequence_count}
use Rattle.def_plan.specs.Plan.{cleared, added}
use Rattle.def_round.specs.Play.{play_of, plan_of_play}
use Rattle.def_round.specs.Round.{own_sum, regrets_after}

-- after some rounds: the regrets of both players, and the sums of their plans so far
pub record Standing : Type 0 where
  pub regrets_one : List ℤ
  pub regrets_two : List ℤ
  pub sum_one : List ℕ
  pub sum_two : List ℕ

abbrev pub opening : SequenceForm → Standing
opening form = record {
  regrets_one = replicate (sequence_count form.sets_one) (pos 0);
  regrets_two = replicate (sequence_count form.sets_two) (pos 0);
  sum_one = cleared form.sets_one;
  sum_two = cleared form.sets_two;
}

-- what a round with these plays and these plans leaves
abbrev pub round_with : SequenceForm → Standing → List ℕ → List ℕ → List ℕ → List ℕ → Standing
round_with form before play_one play_two plan_one plan_two = record {
  regrets_one = regrets_after (own_sum One form.leaves plan_two) play_one form.sets_one before.regrets_one;
  regrets_two = regrets_after (own_sum Two form.leaves plan_one) play_two form.sets_two before.regrets_two;
  sum_one = added before.sum_one plan_one;
  sum_two = added before.sum_two plan_two;
}

-- both plans are made from the regrets as they stand
abbrev pub round_by_play : SequenceForm → ℕ → Standing → List ℕ → List ℕ → Standing
round_by_play form root before play_one play_two =
    round_with form before play_one play_two (plan_of_play form.sets_one play_one root)
    (plan_of_play form.sets_two play_two root)

abbrev pub next_round : SequenceForm → ℕ → Standing → Standing
next_round form root before =
    round_by_play form root before (play_of form.sets_one before.regrets_one) (play_of form.sets_two before.regrets_two)

-- the standing after a number of rounds with plans of a root
abbrev pub rounds : SequenceForm → ℕ → ℕ → Standing
rounds form root zero = opening form
rounds form root (suc n) = next_round form root (rounds form root n)
