-- The sizes on which fixed widths rest.
use Rattle.std.specs.Prelude.{ℕ, ◌+◌, ◌*◌, ◌≤◌, ◌<◌, ◌==◌, ℤ, unsigned_abs, List, zip, filter, All}
use Rattle.std.specs.List.{AllZip}
use Rattle.def_sums.specs.Limits.{most_rounds, most_round_row, most_row, past_product}
use Rattle.def_sums.specs.Sum.{nat_sum_over}
use Rattle.def_tree.specs.declared.Player.{Player}
use Rattle.def_tree.specs.Rules.{most_actions}
use Rattle.def_plan.specs.Form.{InformationSet, placed, sequence_count, AreInOrder, SequenceForm, Leaf}
use Rattle.def_plan.specs.Plan.{IsPlan}
use Rattle.def_plan.specs.Payoff.{worth, mass_of}
use Rattle.def_round.specs.Play.{units, regret_of, GivesAllUnits}
use Rattle.def_round.specs.Round.{own_sum, round_values, regrets_after}
use Rattle.def_round.specs.Rounds.{rounds}
use Rattle.def_round.specs.Sizes.{size_of_sums, IsWithin, RegretsAreWithin, IsWithinRunLimits, dealt_product}

-- a player's leaf sums against a plan, together, are at most the mass times the plan's root
abbrev pub OwnSumsAreSmall : Type 0
OwnSumsAreSmall = (player : Player) (leaves : List Leaf) (sets against_sets : List InformationSet) (root : ℕ)
    (plan : List ℕ)
    → AreInOrder against_sets → IsPlan against_sets root plan
    → size_of_sums (own_sum player leaves plan) sets ≤ mass_of leaves * root

-- the values of a round stay within the sum of the sizes of the leaf sums,
-- and so do the worths and what a round adds to a regret
abbrev pub ValuesAreWithinSums : Type 0
ValuesAreWithinSums = (sums : ℕ → ℤ) (play : List ℕ) (sets : List InformationSet) → AreInOrder sets
    → GivesAllUnits play sets
    → AllZip (IsWithin (size_of_sums sums sets) sums play sets (round_values sums play sets)) (placed sets)
    (round_values sums play sets)

abbrev pub WorthsAreWithinSums : Type 0
WorthsAreWithinSums = (sums : ℕ → ℤ) (play : List ℕ) (sets : List InformationSet) → AreInOrder sets
    → GivesAllUnits play sets
    → (s : ℕ) → s < sequence_count sets
    → unsigned_abs (worth sums (placed sets) (round_values sums play sets) s) ≤ size_of_sums sums sets

-- the parts of the sum that a worth is, together, stay within the same bound, so any part of the sum does
abbrev pub WorthPartsAreWithinSums : Type 0
WorthPartsAreWithinSums = (sums : ℕ → ℤ) (play : List ℕ) (sets : List InformationSet) → AreInOrder sets
    → GivesAllUnits play sets
    → (s : ℕ) → s < sequence_count sets
    → unsigned_abs (sums s) + nat_sum_over (λ p. unsigned_abs p.1)
    (filter (λ p. p.0.before == s) (zip (placed sets) (round_values sums play sets))) ≤ size_of_sums sums sets

-- a round adds at most the leaf sums together to a regret, whatever regrets and plays it begins with
abbrev pub RegretsGrowByTheSums : Type 0
RegretsGrowByTheSums = (sums : ℕ → ℤ) (play : List ℕ) (sets : List InformationSet) (before : List ℤ) (so_far bound : ℕ)
    → AreInOrder sets → GivesAllUnits play sets
    → size_of_sums sums sets ≤ bound → ((s : ℕ) → unsigned_abs (regret_of before s) ≤ so_far)
    → (s : ℕ) → unsigned_abs (regret_of (regrets_after sums play sets before) s) ≤ so_far + bound

-- so with leaf sums that are together at most 2 ^ 82, and regrets within that times the rounds so far, one more round
-- keeps them within that, and at most 2 ^ 98
pub record StaySmall (after : List ℤ) (rounds_so_far : ℕ) : Type 0 where
  pub by_rounds : (s : ℕ) → unsigned_abs (regret_of after s) ≤ (rounds_so_far + 1) * most_round_row
  pub at_most : (s : ℕ) → unsigned_abs (regret_of after s) ≤ most_row

abbrev pub RegretsStaySmall : Type 0
RegretsStaySmall = (sums : ℕ → ℤ) (play : List ℕ) (sets : List InformationSet) (before : List ℤ) (rounds_so_far : ℕ)
    → AreInOrder sets → GivesAllUnits play sets
    → size_of_sums sums sets ≤ most_round_row → rounds_so_far < most_rounds
    → ((s : ℕ) → unsigned_abs (regret_of before s) ≤ rounds_so_far * most_round_row)
    → StaySmall (regrets_after sums play sets before) rounds_so_far

-- a round adds at most the mass times the root to a regret
abbrev pub RegretsGrowSlowly : Type 0
RegretsGrowSlowly = (form : SequenceForm) (root n : ℕ) → AreInOrder form.sets_one → AreInOrder form.sets_two → 1 ≤ root
    → RegretsAreWithin (n * (mass_of form.leaves * root)) (rounds form root n)

-- a round's leaf sums together are at most 2 ^ 82
abbrev pub RoundsAreSmall : Type 0
RoundsAreSmall = (form : SequenceForm) (root n : ℕ) → IsWithinRunLimits form root n
    → mass_of form.leaves * root ≤ most_round_row

-- products of play and worth at a set, together, are at most 2 ^ 98
abbrev pub PlayProductsAreSmall : Type 0
PlayProductsAreSmall = (form : SequenceForm) (root n : ℕ) → IsWithinRunLimits form root n
    → units * (mass_of form.leaves * root) ≤ most_row

-- a regret is at most 2 ^ 98, so below 2 ^ 99
abbrev pub RegretsAreSmall : Type 0
RegretsAreSmall = (form : SequenceForm) (root n : ℕ) → AreInOrder form.sets_one → AreInOrder form.sets_two → 1 ≤ root
    → IsWithinRunLimits form root n
    → RegretsAreWithin most_row (rounds form root n)

-- and all units times a set's regrets are below 2 ^ 126, where a set has at most 1,024 actions
pub record DealsWithin (sets : List InformationSet) (regrets : List ℤ) : Type 0 where
  pub each_set : All (λ h. h.actions ≤ most_actions → dealt_product regrets h < past_product) (placed sets)

pub record BothDealWithin (form : SequenceForm) (root n : ℕ) : Type 0 where
  pub of_one : DealsWithin form.sets_one (rounds form root n).regrets_one
  pub of_two : DealsWithin form.sets_two (rounds form root n).regrets_two

abbrev pub SmallRegretsDealSmallProducts : Type 0
SmallRegretsDealSmallProducts = (sets : List InformationSet) (regrets : List ℤ)
    → ((s : ℕ) → unsigned_abs (regret_of regrets s) ≤ most_row) → DealsWithin sets regrets

abbrev pub DealtProductsAreSmall : Type 0
DealtProductsAreSmall = (form : SequenceForm) (root n : ℕ) → AreInOrder form.sets_one → AreInOrder form.sets_two
    → 1 ≤ root → IsWithinRunLimits form root n
    → BothDealWithin form root n
