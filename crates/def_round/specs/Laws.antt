-- The laws of plays and rounds.
use Rattle.std.specs.Prelude.{◌≡◌, ℕ, ◌+◌, ◌*◌, ◌/◌, ◌≤◌, ◌↔◌, ℤ, pos, neg_ℤ, ◌*ℤ◌, ◌≤ℤ◌, ◌<ℤ◌, List, length, map, drop}
use Rattle.std.specs.Prelude.{replicate, All, slice_index, slice_get, Some}
use Rattle.std.specs.List.{range_with_len}
use Rattle.def_sums.specs.Sum.{sum_over, nat_sum_over}
use Rattle.def_sums.specs.Floor.{IsFloorOf}
use Rattle.def_plan.specs.Form.{InformationSet, PlacedSet, placed, sequences_of, sequence_count, AreInOrder}
use Rattle.def_plan.specs.Form.{SequenceForm}
use Rattle.def_plan.specs.Plan.{IsPlan, cleared}
use Rattle.def_plan.specs.Payoff.{AgreeOn, worth, gain, pay}
use Rattle.def_tree.specs.declared.Player.TheVariants.{One, Two}
use Rattle.def_round.specs.Shares.{shares}
use Rattle.def_round.specs.ShareLaws.{IsWithinOne}
use Rattle.def_round.specs.Play.{units, positive_part, regret_of, regret_sum, IsSequenceOf, set_play, play_of}
use Rattle.def_round.specs.Play.{GivesAllUnits, plan_of_play}
use Rattle.def_round.specs.Round.{own_sum, set_value, AreValues, values_from, round_values, IsRound, regrets_after}
use Rattle.def_round.specs.Rounds.{Standing, rounds}

-- the play has a number for each sequence, and at each set the shares of the regrets' positive parts
pub record IsPlayOf (sets : List InformationSet) (regrets : List ℤ) (play : List ℕ) : Type 0 where
  pub all_sequences : length play ≡ sequence_count sets
  pub none_of_empty : slice_index play 0 ≡ 0
  pub each_set : All (λ h. map (λ s. slice_index play s) (sequences_of h) ≡ set_play regrets h) (placed sets)

abbrev pub PlaysHaveEachSet : Type 0
PlaysHaveEachSet = (sets : List InformationSet) (regrets : List ℤ) → IsPlayOf sets regrets (play_of sets regrets)

-- at each set the play gives out all units
abbrev pub PlaysGiveAllUnits : Type 0
PlaysGiveAllUnits = (sets : List InformationSet) (regrets : List ℤ) → AreInOrder sets
    → GivesAllUnits (play_of sets regrets) sets

-- regret matching: where some action of a set has a positive regret, those without one are not played
abbrev pub PlaysPositiveRegrets : Type 0
PlaysPositiveRegrets = (sets : List InformationSet) (regrets : List ℤ)
    → All (λ h. (s t : ℕ) → IsSequenceOf h s → IsSequenceOf h t → pos 0 <ℤ regret_of regrets t → regret_of regrets s
    ≤ℤ pos 0 → slice_index (play_of sets regrets) s ≡ 0) (placed sets)

-- the positive part of a regret is the regret, or 0 where it isn't positive
pub record PositivePartsAreExact : Type 0 where
  pub of_positive : (regret : ℤ) → pos 0 ≤ℤ regret → pos (positive_part regret) ≡ regret
  pub of_others : (regret : ℤ) → regret ≤ℤ pos 0 → positive_part regret ≡ 0

-- where a set has a positive regret, an action's play is its positive part of the units, out of the sum of the positive
-- parts, but for less than one unit, and what the first actions get together is rounded down;
-- else all are played evenly
pub record IsInProportion (regrets : List ℤ) (play : List ℕ) (h : PlacedSet) : Type 0 where
  pub each_action : (s : ℕ) → IsSequenceOf h s → 1 ≤ regret_sum regrets h
      → IsWithinOne units (positive_part (regret_of regrets s)) (regret_sum regrets h) (slice_index play s)
  pub first_actions : (i : ℕ) → i ≤ h.actions → 1 ≤ regret_sum regrets h
      → nat_sum_over (λ s. slice_index play s) (range_with_len h.first i)
      ≡ units * nat_sum_over (λ s. positive_part (regret_of regrets s)) (range_with_len h.first i)
      / regret_sum regrets h
  pub evenly : (i : ℕ) → i ≤ h.actions → regret_sum regrets h ≡ 0
      → nat_sum_over (λ s. slice_index play s) (range_with_len h.first i) ≡ units * i / h.actions

abbrev pub PlaysAreInProportion : Type 0
PlaysAreInProportion = (sets : List InformationSet) (regrets : List ℤ)
    → All (IsInProportion regrets (play_of sets regrets)) (placed sets)

-- what a play deals is a plan
abbrev pub PlaysDealPlans : Type 0
PlaysDealPlans = (sets : List InformationSet) (play : List ℕ) (root : ℕ) → AreInOrder sets → 1 ≤ root
    → IsPlan sets root (plan_of_play sets play root)

-- and at each set it deals the number of the sequence before it by shares, with the set's play as the weights
abbrev pub PlaysDealByShares : Type 0
PlaysDealByShares = (sets : List InformationSet) (play : List ℕ) (root : ℕ) → AreInOrder sets
    → let plan : List ℕ = plan_of_play sets play root in
    All (λ h. map (λ s. slice_index plan s) (sequences_of h)
    ≡ shares (slice_index plan h.before) (map (λ s. slice_index play s) (sequences_of h))) (placed sets)

-- no other plan does
pub record IsPlanOfPlay (sets : List InformationSet) (play : List ℕ) (root : ℕ) (plan : List ℕ) : Type 0 where
  pub is_plan : IsPlan sets root plan
  pub each_set : All (λ h. map (λ s. slice_index plan s) (sequences_of h)
      ≡ shares (slice_index plan h.before) (map (λ s. slice_index play s) (sequences_of h))) (placed sets)

abbrev pub PlansOfPlaysAreUnique : Type 0
PlansOfPlaysAreUnique = (sets : List InformationSet) (play : List ℕ) (root : ℕ) (plan : List ℕ) → AreInOrder sets
    → IsPlanOfPlay sets play root plan → plan ≡ plan_of_play sets play root

-- a plan gains from its player's sums what it pays player one, and player two gets the negative
pub record GainWhatIsPaid (form : SequenceForm) (plan_one plan_two : List ℕ) : Type 0 where
  pub of_one : length plan_one ≡ sequence_count form.sets_one
      → gain (own_sum One form.leaves plan_two) form.sets_one plan_one ≡ pay form.leaves plan_one plan_two
  pub of_two : length plan_two ≡ sequence_count form.sets_two
      → gain (own_sum Two form.leaves plan_one) form.sets_two plan_two ≡ neg_ℤ (pay form.leaves plan_one plan_two)

abbrev pub OwnSumsGainWhatIsPaid : Type 0
OwnSumsGainWhatIsPaid = (form : SequenceForm) (plan_one plan_two : List ℕ) → GainWhatIsPaid form plan_one plan_two

-- a set's value is the average of what its sequences are worth, by the play out of all units, rounded down
abbrev pub SetValuesAreAverages : Type 0
SetValuesAreAverages = (play : List ℕ) (worths : ℕ → ℤ) (h : PlacedSet)
    → IsFloorOf (sum_over (λ s. pos (slice_index play s) *ℤ worths s) (sequences_of h)) units (set_value play worths h)

-- the equations of a round have a solution, which is computed, and no other
abbrev pub ValuesSolveTheEquations : Type 0
ValuesSolveTheEquations = (sums : ℕ → ℤ) (play : List ℕ) (sets : List InformationSet) → AreInOrder sets
    → AreValues sums play sets (round_values sums play sets)

abbrev pub ValuesAreUnique : Type 0
ValuesAreUnique = (sums : ℕ → ℤ) (play : List ℕ) (sets : List InformationSet) (values : List ℤ) → AreInOrder sets
    → AreValues sums play sets values → values ≡ round_values sums play sets

-- the values of the sets from one on are those of the rest
abbrev pub ValuesOfTheRest : Type 0
ValuesOfTheRest = (sums : ℕ → ℤ) (play : List ℕ) (sets : List InformationSet) (k : ℕ)
    → drop k (round_values sums play sets) ≡ values_from sums play (drop k (placed sets))

-- a round needs the sums at its player's own sequences alone
pub record RoundsNeedOwnSums : Type 0 where
  pub values : (sums other : ℕ → ℤ) (play : List ℕ) (sets : List InformationSet) → AgreeOn sets sums other
      → round_values sums play sets ≡ round_values other play sets
  pub regrets : (sums other : ℕ → ℤ) (play : List ℕ) (sets : List InformationSet) (before : List ℤ)
      → AgreeOn sets sums other
      → regrets_after sums play sets before ≡ regrets_after other play sets before

-- the worth of a sequence that isn't before those of a set needs the sets after that set alone
abbrev pub WorthsNeedLaterSets : Type 0
WorthsNeedLaterSets = (sums : ℕ → ℤ) (sets : List InformationSet) (values : List ℤ) → AreInOrder sets
    → length values ≡ length sets
    → (k : ℕ) (h : PlacedSet) → slice_get (placed sets) k ≡ Some h → (s : ℕ) → h.first ≤ s
    → worth sums (placed sets) values s ≡ worth sums (drop (k + 1) (placed sets)) (drop (k + 1) values) s

-- the regrets after a round are those that the equations allow, and no others
abbrev pub RoundsAreComputed : Type 0
RoundsAreComputed = (sums : ℕ → ℤ) (play : List ℕ) (sets : List InformationSet) (before after : List ℤ)
    → AreInOrder sets
    → IsRound sums play sets before after ↔ (after ≡ regrets_after sums play sets before)

-- a run begins with no regrets, and nothing in the sums
pub record IsFirstStanding (form : SequenceForm) (standing : Standing) : Type 0 where
  pub regrets_of_one : standing.regrets_one ≡ replicate (sequence_count form.sets_one) (pos 0)
  pub regrets_of_two : standing.regrets_two ≡ replicate (sequence_count form.sets_two) (pos 0)
  pub sum_of_one : standing.sum_one ≡ cleared form.sets_one
  pub sum_of_two : standing.sum_two ≡ cleared form.sets_two

-- the sums after a round have what they had before and the plan of the round
pub record GrowsBy (before plan after : List ℕ) : Type 0 where
  pub all_sequences : length after ≡ length before
  pub each_number : (s : ℕ) → slice_index after s ≡ slice_index before s + slice_index plan s

-- from one standing to the next: both play by their regrets, both plans are dealt from these plays, the sums grow by
-- these plans, and the regrets of each player grow by the round against the other's plan, with the player's own play
pub record IsNextRound (form : SequenceForm) (root : ℕ) (before after : Standing) : Type 0 where
  pub play_one : List ℕ
  pub play_two : List ℕ
  pub plan_one : List ℕ
  pub plan_two : List ℕ
  pub plays_of_one : IsPlayOf form.sets_one before.regrets_one play_one
  pub plays_of_two : IsPlayOf form.sets_two before.regrets_two play_two
  pub deals_of_one : IsPlanOfPlay form.sets_one play_one root plan_one
  pub deals_of_two : IsPlanOfPlay form.sets_two play_two root plan_two
  pub sum_of_one : GrowsBy before.sum_one plan_one after.sum_one
  pub sum_of_two : GrowsBy before.sum_two plan_two after.sum_two
  pub regrets_of_one : IsRound (own_sum One form.leaves plan_two) play_one form.sets_one before.regrets_one
      after.regrets_one
  pub regrets_of_two : IsRound (own_sum Two form.leaves plan_one) play_two form.sets_two before.regrets_two
      after.regrets_two

-- so a run begins, and so each round follows from the one before it, the first and every later one
pub record RoundsFollow : Type 0 where
  pub begins : (form : SequenceForm) (root : ℕ) → IsFirstStanding form (rounds form root 0)
  pub goes_on : (form : SequenceForm) (root n : ℕ) → AreInOrder form.sets_one → AreInOrder form.sets_two → 1 ≤ root
      → IsNextRound form root (rounds form root n) (rounds form root (n + 1))

-- after some rounds the sums of the plans are plans of the root times the number of rounds
pub record AreSumsOfPlans (form : SequenceForm) (root n : ℕ) : Type 0 where
  pub of_one : IsPlan form.sets_one (n * root) (rounds form root n).sum_one
  pub of_two : IsPlan form.sets_two (n * root) (rounds form root n).sum_two

abbrev pub RoundsSumToPlans : Type 0
RoundsSumToPlans = (form : SequenceForm) (root n : ℕ) → AreInOrder form.sets_one → AreInOrder form.sets_two → 1 ≤ root
    → 1 ≤ n → AreSumsOfPlans form root n
