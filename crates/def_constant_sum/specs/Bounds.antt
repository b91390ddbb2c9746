-- What a plan is sure of, in expected payoffs, and what it keeps the other player to (von Neumann and Morgenstern
-- 1944).
--     IsSureOf player tables tree plan f       the player's plan is expected to get at least f against each plan
--     KeepsTo player tables tree plan f        against it no plan of the other player is expected to get more than f
--     IsBestPayoff player tables tree plan f   the best that the player is expected to get against the other's plan
use Rattle.std.specs.Prelude.{◌≡◌, ℕ, ◌*◌, List, ℤ, pos, ◌*ℤ◌, ◌≤ℤ◌}
use Rattle.def_tree.specs.declared.Player.{Player}
use Rattle.def_tree.specs.declared.Player.TheVariants.{One, Two}
use Rattle.def_tree.specs.Opponent.{opponent}
use Rattle.def_tree.specs.Tree.{Forest}
use Rattle.def_fraction.specs.Fraction.{Fraction, fraction_of, sum_of}
use Rattle.def_fraction.specs.Order.{IsAtMost, difference_of}
use Rattle.def_game_scale.specs.Tables.{Tables, game_sum}
use Rattle.def_game_scale.specs.Scale.{game_unit}
use Rattle.def_plan.specs.Form.{player_sets}
use Rattle.def_plan.specs.Plan.{IsPlan}
use Rattle.def_plan.specs.Payoff.{pay}
use Rattle.def_sequence_form.specs.Form.{form_of_game}
use Rattle.def_constant_sum.specs.Expected.{expected_payoff}

-- what a player is expected to get, by the plan of a player, whose own it is, and a plan of the other one
abbrev pub payoff_by : Player → Player → Tables → Forest → List ℕ → List ℕ → Fraction
payoff_by player One tables tree own other = expected_payoff player tables tree own other
payoff_by player Two tables tree own other = expected_payoff player tables tree other own

abbrev pub IsPlanFor : Player → Tables → Forest → ℕ → List ℕ → Type 0
IsPlanFor player tables tree root plan = IsPlan (player_sets (form_of_game tables tree) player) root plan

-- the player's plan gets at least the bound against each plan of the other player
abbrev pub IsSureOf : Player → Tables → Forest → List ℕ → Fraction → Type 0
IsSureOf player tables tree plan bound = (root : ℕ) (other : List ℕ)
    → IsPlanFor (opponent player) tables tree root other
    → IsAtMost bound (payoff_by player player tables tree plan other)

-- the other player gets at most the bound against the player's plan
abbrev pub KeepsTo : Player → Tables → Forest → List ℕ → Fraction → Type 0
KeepsTo player tables tree plan bound = (root : ℕ) (other : List ℕ) → IsPlanFor (opponent player) tables tree root other
    → IsAtMost (payoff_by (opponent player) player tables tree plan other) bound

-- in weights of the leaves, player one's plan gets at least the bound, and player two's concedes at most the bound,
-- each against all plans of the other
abbrev pub GetsInWeights : Tables → Forest → ℕ → List ℕ → Fraction → Type 0
GetsInWeights tables tree root plan_one low = (root_two : ℕ) (plan_two : List ℕ)
    → IsPlanFor Two tables tree root_two plan_two
    → (low.num *ℤ pos (game_unit tables tree * root * root_two))
    ≤ℤ (pay (form_of_game tables tree).leaves plan_one plan_two *ℤ pos low.den)

abbrev pub ConcedesInWeights : Tables → Forest → ℕ → List ℕ → Fraction → Type 0
ConcedesInWeights tables tree root plan_two high = (root_one : ℕ) (plan_one : List ℕ)
    → IsPlanFor One tables tree root_one plan_one
    → (pay (form_of_game tables tree).leaves plan_one plan_two *ℤ pos high.den)
    ≤ℤ (high.num *ℤ pos (game_unit tables tree * root * root_one))

-- the best that the player is expected to get against a plan of the other player: some plan gets it, and none gets more
pub record IsBestPayoff (player : Player) (tables : Tables) (tree : Forest) (against : List ℕ) (best : Fraction) : Type
    0 where
  pub root : ℕ
  pub reply : List ℕ
  pub is_plan : IsPlanFor player tables tree root reply
  pub attained : payoff_by player player tables tree reply against ≡ best
  pub most : KeepsTo (opponent player) tables tree against best

-- the gap of two plans, in weights, over the unit and the roots is what both players together could gain by their best
-- replies, and so what these get together less the game's sum
pub record IsGainOfBoth (tables : Tables) (tree : Forest) (root_one root_two : ℕ) (plan_one plan_two : List ℕ)
    (gap : ℤ) : Type 0 where
  pub best_one : Fraction
  pub best_two : Fraction
  pub is_best_one : IsBestPayoff One tables tree plan_two best_one
  pub is_best_two : IsBestPayoff Two tables tree plan_one best_two
  pub gains : sum_of (difference_of best_one (expected_payoff One tables tree plan_one plan_two))
      (difference_of best_two (expected_payoff Two tables tree plan_one plan_two))
      ≡ fraction_of gap (game_unit tables tree * (root_one * root_two))
  pub bests : difference_of (sum_of best_one best_two) (game_sum tables tree)
      ≡ fraction_of gap (game_unit tables tree * (root_one * root_two))
