-- Rounds of CFR+ (Tammelin 2014) in which both players move at once: a round is one of regret matching, after which the
-- regrets are cut at 0, and its plans count in the sums as many times as the number of the round.
use Rattle.std.specs.Prelude.{ℕ, zero, suc, List}
use Rattle.def_tree.specs.declared.Player.{Player}
use Rattle.def_tree.specs.declared.Player.TheVariants.{One, Two}
use Rattle.def_plan.specs.Form.{SequenceForm}
use Rattle.def_round.specs.Play.{play_of, plan_of_play}
use Rattle.def_round.specs.Rounds.{Standing, opening, round_with}
use Rattle.def_plus.specs.Cut.{cut}
use Rattle.def_plus.specs.Multiple.{added_times}

-- what becomes of a standing, of which plain regret matching with these two plans makes `played`
abbrev pub cut_and_weighed : ℕ → Standing → Standing → List ℕ → List ℕ → Standing
cut_and_weighed weight before played plan_one plan_two = record {
  regrets_one = cut played.regrets_one;
  regrets_two = cut played.regrets_two;
  sum_one = added_times before.sum_one plan_one weight;
  sum_two = added_times before.sum_two plan_two weight;
}

abbrev pub plus_round_with : SequenceForm → ℕ → Standing → List ℕ → List ℕ → List ℕ → List ℕ → Standing
plus_round_with form weight before play_one play_two plan_one plan_two =
    cut_and_weighed weight before (round_with form before play_one play_two plan_one plan_two) plan_one plan_two

-- both plans are made from the regrets as they stand
abbrev pub plus_round_by_play : SequenceForm → ℕ → ℕ → Standing → List ℕ → List ℕ → Standing
plus_round_by_play form root weight before play_one play_two =
    plus_round_with form weight before play_one play_two (plan_of_play form.sets_one play_one root)
    (plan_of_play form.sets_two play_two root)

abbrev pub next_plus_round : SequenceForm → ℕ → ℕ → Standing → Standing
next_plus_round form root weight before =
    plus_round_by_play form root weight before (play_of form.sets_one before.regrets_one)
    (play_of form.sets_two before.regrets_two)

-- the standing after a number of rounds with plans of a root
abbrev pub plus_rounds : SequenceForm → ℕ → ℕ → Standing
plus_rounds form root zero = opening form
plus_rounds form root (suc n) = next_plus_round form root (suc n) (plus_rounds form root n)

-- the plan that a player makes after a number of rounds
abbrev pub plan_after : SequenceForm → Player → ℕ → ℕ → List ℕ
plan_after form One root n = plan_of_play form.sets_one (play_of form.sets_one (plus_rounds form root n).regrets_one)
    root
plan_after form Two root n = plan_of_play form.sets_two (play_of form.sets_two (plus_rounds form root n).regrets_two)
    root

abbrev pub sum_after : SequenceForm → Player → ℕ → ℕ → List ℕ
sum_after form One root n = (plus_rounds form root n).sum_one
sum_after form Two root n = (plus_rounds form root n).sum_two
