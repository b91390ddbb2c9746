-- The laws of rounds of CFR+. Each is the contract of a function of this crate.
use Rattle.std.specs.Prelude.{◌≡◌, ℕ, ◌+◌, ◌-◌, ◌*◌, ◌≤◌, ℤ, pos, ◌≤ℤ◌, List, length, slice_index}
use Rattle.std.specs.Int.{int_max}
use Rattle.std.specs.List.{range_with_len}
use Rattle.def_sums.specs.Sum.{nat_sum_over}
use Rattle.def_sums.specs.Limits.{most_round_row}
use Rattle.def_tree.specs.declared.Player.{Player}
use Rattle.def_tree.specs.declared.Player.TheVariants.{One, Two}
use Rattle.def_plan.specs.Form.{AreInOrder, InformationSet, SequenceForm}
use Rattle.def_plan.specs.Plan.{IsPlan}
use Rattle.def_plan.specs.Payoff.{mass_of}
use Rattle.def_round.specs.Play.{regret_of}
use Rattle.def_round.specs.Round.{own_sum, IsRound}
use Rattle.def_round.specs.Rounds.{Standing}
use Rattle.def_round.specs.Laws.{IsPlayOf, IsPlanOfPlay, IsFirstStanding}
use Rattle.def_round.specs.Sizes.{RegretsAreWithin}
use Rattle.def_plus.specs.Limits.{IsWithinPlusLimits}
use Rattle.def_plus.specs.Weights.{total_weight}
use Rattle.def_plus.specs.PlusRounds.{plus_rounds, plan_after, sum_after}

-- the sums after a round have what they had before and the plan of the round, so many times
pub record GrowsByTimes (weight : ℕ) (before plan after : List ℕ) : Type 0 where
  pub all_sequences : length after ≡ length before
  pub each_number : (s : ℕ) → slice_index after s ≡ slice_index before s + weight * slice_index plan s

-- a round of regret matching changes the regrets, and each is then the greater of 0 and what the round has made of it
pub record IsCutRound (sums : ℕ → ℤ) (play : List ℕ) (sets : List InformationSet)
    (before after : List ℤ) : Type 0 where
  pub changed : List ℤ
  pub changes : IsRound sums play sets before changed
  pub all_sequences : length after ≡ length changed
  pub greater : (s : ℕ) → regret_of after s ≡ int_max (pos 0) (regret_of changed s)

-- from one standing to the next: both play by their regrets, both plans are dealt from these plays, each counts in its
-- sum as many times as the round weighs, and the regrets of each player are those of the round against the other's
-- plan, with the player's own play, cut at 0
pub record IsNextPlusRound (form : SequenceForm) (root weight : ℕ) (before after : Standing) : Type 0 where
  pub play_one : List ℕ
  pub play_two : List ℕ
  pub plan_one : List ℕ
  pub plan_two : List ℕ
  pub plays_of_one : IsPlayOf form.sets_one before.regrets_one play_one
  pub plays_of_two : IsPlayOf form.sets_two before.regrets_two play_two
  pub deals_of_one : IsPlanOfPlay form.sets_one play_one root plan_one
  pub deals_of_two : IsPlanOfPlay form.sets_two play_two root plan_two
  pub sum_of_one : GrowsByTimes weight before.sum_one plan_one after.sum_one
  pub sum_of_two : GrowsByTimes weight before.sum_two plan_two after.sum_two
  pub regrets_of_one : IsCutRound (own_sum One form.leaves plan_two) play_one form.sets_one before.regrets_one
      after.regrets_one
  pub regrets_of_two : IsCutRound (own_sum Two form.leaves plan_one) play_two form.sets_two before.regrets_two
      after.regrets_two

-- so a run begins, and so round n + 1, which weighs n + 1, follows from the rounds before it
pub record PlusRoundsFollow : Type 0 where
  pub begins : (form : SequenceForm) (root : ℕ) → IsFirstStanding form (plus_rounds form root 0)
  pub goes_on : (form : SequenceForm) (root n : ℕ) → AreInOrder form.sets_one → AreInOrder form.sets_two → 1 ≤ root
      → IsNextPlusRound form root (n + 1) (plus_rounds form root n) (plus_rounds form root (n + 1))

-- each number of a sum is the weighted sum of the numbers of all rounds' plans, where round k, whose plan is made after
-- k - 1 rounds, weighs k
abbrev pub SumsWeighThePlans : Type 0
SumsWeighThePlans = (form : SequenceForm) (player : Player) (root n s : ℕ) → AreInOrder form.sets_one
    → AreInOrder form.sets_two → 1 ≤ root
    → slice_index (sum_after form player root n) s
    ≡ nat_sum_over (λ k. k * slice_index (plan_after form player root (k - 1)) s) (range_with_len 1 n)

-- so after some rounds the sums are plans of the root times what the rounds weigh together
pub record AreWeighedSums (form : SequenceForm) (root n : ℕ) : Type 0 where
  pub of_one : IsPlan form.sets_one (total_weight n * root) (plus_rounds form root n).sum_one
  pub of_two : IsPlan form.sets_two (total_weight n * root) (plus_rounds form root n).sum_two

abbrev pub PlusRoundsSumToPlans : Type 0
PlusRoundsSumToPlans = (form : SequenceForm) (root n : ℕ) → AreInOrder form.sets_one → AreInOrder form.sets_two
    → 1 ≤ root → 1 ≤ n → AreWeighedSums form root n

-- no regret is ever below 0
pub record HasNoNegativeRegrets (standing : Standing) : Type 0 where
  pub of_one : (s : ℕ) → pos 0 ≤ℤ regret_of standing.regrets_one s
  pub of_two : (s : ℕ) → pos 0 ≤ℤ regret_of standing.regrets_two s

abbrev pub PlusRegretsAreNotNegative : Type 0
PlusRegretsAreNotNegative = (form : SequenceForm) (root n : ℕ) → HasNoNegativeRegrets (plus_rounds form root n)

-- regrets stay as small as those of plain rounds
pub record PlusRegretsAreSmall : Type 0 where
  pub by_rounds : (form : SequenceForm) (root n : ℕ) → AreInOrder form.sets_one → AreInOrder form.sets_two → 1 ≤ root
      → RegretsAreWithin (n * (mass_of form.leaves * root)) (plus_rounds form root n)
  pub within_limits : (form : SequenceForm) (root n : ℕ) → AreInOrder form.sets_one → AreInOrder form.sets_two
      → 1 ≤ root → IsWithinPlusLimits form root n → RegretsAreWithin (n * most_round_row) (plus_rounds form root n)
