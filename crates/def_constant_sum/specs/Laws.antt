-- What holds of the expected payoffs of two plans. Each is the contract of a function of this crate.
use Rattle.std.specs.Prelude.{◌≡◌, ◌↔◌, ℕ, ◌*◌, ◌≤◌, List, None, ℤ, pos, ◌-ℤ◌, ◌*ℤ◌}
use Rattle.def_tree.specs.declared.Player.{Player}
use Rattle.def_tree.specs.declared.Player.TheVariants.{One, Two}
use Rattle.def_tree.specs.Opponent.{opponent}
use Rattle.def_tree.specs.Tree.{Forest}
use Rattle.def_fraction.specs.Fraction.{Fraction, fraction_of, sum_of}
use Rattle.def_game_paths.specs.Paths.{leaf_visits}
use Rattle.def_game_scale.specs.Tables.{IsConstantSum, Tables, certain, game_sum}
use Rattle.def_game_scale.specs.Scale.{game_unit, whole_sum}
use Rattle.def_file.specs.Content.{GameFile}
use Rattle.def_file.specs.Game.{HasFractions, IsWholeGame}
use Rattle.def_plan.specs.Payoff.{pay}
use Rattle.def_sequence_form.specs.Form.{form_of_game}
use Rattle.def_reply.specs.Bounds.{IsBestAgainst, IsExploitability, IsLeft}
use Rattle.def_game_numbers.specs.Numbers.{game_file_fault, tables_of}
use Rattle.def_constant_sum.specs.Expected.{ArePlans, IsCompleteGame, expected_payoff, fraction_sum, leaf_probability}
use Rattle.def_fraction.specs.Order.{difference_of}
use Rattle.def_constant_sum.specs.Bounds.{ConcedesInWeights, GetsInWeights, IsBestPayoff, IsGainOfBoth, IsPlanFor}
use Rattle.def_constant_sum.specs.Bounds.{IsSureOf, KeepsTo}

-- a complete game of constant sum
pub record IsConstantGame (tables : Tables) (tree : Forest) : Type 0 where
  pub complete : IsCompleteGame tables tree
  pub constant_sum : IsConstantSum tables tree

-- the game of a file without a fault is one
abbrev pub FaultlessGamesAreComplete : Type 0
FaultlessGamesAreComplete = (game : GameFile) → IsWholeGame game → HasFractions game.sets game.outcomes
    → game_file_fault game ≡ None → IsConstantGame (tables_of game) game.tree

-- the probabilities of the leaves add up to 1
abbrev pub LeavesShareOne : Type 0
LeavesShareOne = (tables : Tables) (tree : Forest) → IsCompleteGame tables tree
    → (root_one root_two : ℕ) (plan_one plan_two : List ℕ) → ArePlans tables tree root_one root_two plan_one plan_two
    → fraction_sum (leaf_probability tables tree plan_one plan_two) (leaf_visits tree) ≡ certain

-- what player one is expected to get is what the plans pay in weights, over the unit and both roots
abbrev pub WeightsPayTheExpected : Type 0
WeightsPayTheExpected = (tables : Tables) (tree : Forest) → IsCompleteGame tables tree
    → (root_one root_two : ℕ) (plan_one plan_two : List ℕ) → ArePlans tables tree root_one root_two plan_one plan_two
    → expected_payoff One tables tree plan_one plan_two
    ≡ fraction_of (pay (form_of_game tables tree).leaves plan_one plan_two)
    (game_unit tables tree * (root_one * root_two))

-- both players together get the game's sum, so player two what player one leaves of it, in weights too
pub record PayTheSum (tables : Tables) (tree : Forest) (root_one root_two : ℕ) (plan_one plan_two : List ℕ) : Type
    0 where
  pub total : sum_of (expected_payoff One tables tree plan_one plan_two)
      (expected_payoff Two tables tree plan_one plan_two)
      ≡ game_sum tables tree
  pub two : expected_payoff Two tables tree plan_one plan_two
      ≡ difference_of (game_sum tables tree) (expected_payoff One tables tree plan_one plan_two)
  pub two_in_weights : expected_payoff Two tables tree plan_one plan_two
      ≡ fraction_of ((whole_sum tables tree *ℤ pos (root_one * root_two))
      -ℤ pay (form_of_game tables tree).leaves plan_one plan_two)
      (game_unit tables tree * (root_one * root_two))

abbrev pub PayoffsAddUp : Type 0
PayoffsAddUp = (tables : Tables) (tree : Forest) → IsConstantGame tables tree
    → (root_one root_two : ℕ) (plan_one plan_two : List ℕ) → ArePlans tables tree root_one root_two plan_one plan_two
    → PayTheSum tables tree root_one root_two plan_one plan_two

-- a bound in weights is one of expected payoffs
pub record BoundsInWeights : Type 0 where
  pub gets : (tables : Tables) (tree : Forest) → IsCompleteGame tables tree → (root : ℕ) (plan_one : List ℕ)
      → IsPlanFor One tables tree root plan_one → (low : Fraction)
      → GetsInWeights tables tree root plan_one low ↔ IsSureOf One tables tree plan_one low
  pub concedes : (tables : Tables) (tree : Forest) → IsCompleteGame tables tree → (root : ℕ) (plan_two : List ℕ)
      → IsPlanFor Two tables tree root plan_two → (high : Fraction)
      → ConcedesInWeights tables tree root plan_two high ↔ KeepsTo Two tables tree plan_two high

-- a plan is sure of a payoff exactly where it keeps the other player to the rest of the game's sum, and keeps the other
-- player to a payoff exactly where it is sure of the rest
pub record BoundsTheOther (player : Player) (tables : Tables) (tree : Forest) (plan : List ℕ) (bound : Fraction) : Type
    0 where
  pub sure : IsSureOf player tables tree plan bound ↔ KeepsTo player tables tree plan
      (difference_of (game_sum tables tree) bound)
  pub keeps : KeepsTo player tables tree plan bound ↔ IsSureOf player tables tree plan
      (difference_of (game_sum tables tree) bound)

abbrev pub EachBoundsTheOther : Type 0
EachBoundsTheOther = (tables : Tables) (tree : Forest) → IsConstantGame tables tree
    → (player : Player) (root : ℕ) (plan : List ℕ) → IsPlanFor player tables tree root plan
    → (bound : Fraction) → 1 ≤ bound.den → BoundsTheOther player tables tree plan bound

-- player one's best payoff in weights, over the unit and the root of player two's plan, is the best that player one is
-- expected to get; and player two's is what the game's sum is above the payoff that player two's best replies leave
pub record BestPayoffsInWeights : Type 0 where
  pub one : (tables : Tables) (tree : Forest) → IsCompleteGame tables tree → (root_two : ℕ) (plan_two : List ℕ)
      → IsPlanFor Two tables tree root_two plan_two → (best : ℤ)
      → IsBestAgainst (form_of_game tables tree) plan_two best
      → IsBestPayoff One tables tree plan_two (fraction_of best (game_unit tables tree * root_two))
  pub two : (tables : Tables) (tree : Forest) → IsConstantGame tables tree → (root_one : ℕ) (plan_one : List ℕ)
      → IsPlanFor One tables tree root_one plan_one → (left : ℤ) → IsLeft (form_of_game tables tree) plan_one left
      → IsBestPayoff Two tables tree plan_one (difference_of (game_sum tables tree)
      (fraction_of left (game_unit tables tree * root_one)))

-- the total exploitability of two plans is what both players together could gain, and there is one best payoff
pub record ExploitabilityIsGained : Type 0 where
  pub gained : (tables : Tables) (tree : Forest) → IsConstantGame tables tree
      → (root_one root_two : ℕ) (plan_one plan_two : List ℕ) → ArePlans tables tree root_one root_two plan_one plan_two
      → (gap : ℤ) → IsExploitability (form_of_game tables tree) root_one root_two plan_one plan_two gap
      → IsGainOfBoth tables tree root_one root_two plan_one plan_two gap
  pub only : (tables : Tables) (tree : Forest) → IsCompleteGame tables tree
      → (player : Player) (root : ℕ) (against : List ℕ) (best other : Fraction)
      → IsPlanFor (opponent player) tables tree root against → IsBestPayoff player tables tree against best
      → IsBestPayoff player tables tree against other → best ≡ other
