-- Two plans have one exploitability, a printed bound is the best of those that hold of its plan, and both printed
-- bounds bound both players.
--     BoundsAreSharp              LOW is the greatest, and HIGH the least
--     HoldForBothPlayers          what LOW and HIGH say of what each player is expected to get
--     BoundsHoldForBothPlayers    they say so of an accepted file's game
--     AcceptedSecondsBoundPlayerTwo
--                                 what the second bracket of an accepted text says of player two
use Rattle.std.specs.Prelude.{◌≡◌, ℕ, ◌*◌, ◌≤◌, List, ℤ, Ok}
use Rattle.def_tree.specs.declared.Player.TheVariants.{One, Two}
use Rattle.def_tree.specs.Tree.{Forest}
use Rattle.def_fraction.specs.Fraction.{Fraction, fraction_of}
use Rattle.def_game_scale.specs.Tables.{Tables, game_sum}
use Rattle.def_game_scale.specs.Scale.{game_unit}
use Rattle.def_file.specs.Content.{GameFile}
use Rattle.def_plan.specs.Form.{SequenceForm}
use Rattle.def_sequence_form.specs.Form.{form_of_game}
use Rattle.def_reply.specs.Bounds.{IsExploitability}
use Rattle.def_game_numbers.specs.Numbers.{tables_of}
use Rattle.def_game_numbers.specs.Weighed.{weighed_game}
use Rattle.def_fraction.specs.Order.{IsAtMost, difference_of}
use Rattle.def_constant_sum.specs.Bounds.{IsBestPayoff, IsGainOfBoth, IsPlanFor, IsSureOf, KeepsTo}
use Rattle.def_cert_verdict.specs.Certificate.{PrintedBounds, printed_numbers}
use Rattle.def_plan.specs.Weighed.{WeighedGame}
use Rattle.def_cert_verdict.specs.Laws.{ConcedesAtMost, GetsAtLeast}
use Rattle.def_cert_verdict.specs.Verdict.{Verdict}
use Rattle.def_reply.specs.Outcome.{Head}
use Rattle.def_cert_text.specs.Versions.{PrintedBracket}
use Rattle.def_cert_text.specs.Laws.{with_second}
use Rattle.def_cert_versions.specs.PlayerTwo.{BoundsPlayerTwo}
use Rattle.def_check.specs.Accepted.{IsAccepted}
use Rattle.def_check.specs.Check.{checked}
use Rattle.def_check.specs.Checking.{IsTextOf}
use Rattle.def_plus.specs.declared.Variant.{Variant}
use Rattle.def_cert_accepted.specs.Bounds.{BoundsHold}

-- two plans have one total exploitability
abbrev pub ExploitabilityIsOne : Type 0
ExploitabilityIsOne = (form : SequenceForm) (root_one root_two : ℕ) (plan_one plan_two : List ℕ) (gap other : ℤ)
    → IsExploitability form root_one root_two plan_one plan_two gap
    → IsExploitability form root_one root_two plan_one plan_two other → gap ≡ other

-- whatever player one's printed plan gets at least is at most LOW, and whatever player two's concedes at most is at
-- least HIGH
pub record BoundsAreSharp : Type 0 where
  pub low : (game : WeighedGame) (variant : Variant) (scale : ℕ) (b : PrintedBounds) (bound : Fraction) → 1 ≤ game.unit
      → BoundsHold game variant scale b → GetsAtLeast game b.plan_one.root (printed_numbers b.plan_one) bound
      → IsAtMost bound b.low
  pub high : (game : WeighedGame) (variant : Variant) (scale : ℕ) (b : PrintedBounds) (bound : Fraction) → 1 ≤ game.unit
      → BoundsHold game variant scale b → ConcedesAtMost game b.plan_two.root (printed_numbers b.plan_two) bound
      → IsAtMost b.high bound

-- What printed bounds say of both players, each in their own expected payoffs. LOW and HIGH are player one's; player
-- two's are what the game's sum is above them.
pub record HoldForBothPlayers (tables : Tables) (tree : Forest) (b : PrintedBounds) : Type 0 where
  -- player one's plan gets at least LOW, and player two gets at most the sum less LOW against it, which some plan gets
  pub one_gets : IsSureOf One tables tree (printed_numbers b.plan_one) b.low
  pub two_gets_at_most : KeepsTo One tables tree (printed_numbers b.plan_one)
      (difference_of (game_sum tables tree) b.low)
  pub best_of_two : IsBestPayoff Two tables tree (printed_numbers b.plan_one)
      (difference_of (game_sum tables tree) b.low)
  -- player two's plan gets at least the sum less HIGH, and player one gets at most HIGH against it, which some plan
  -- gets
  pub two_gets : IsSureOf Two tables tree (printed_numbers b.plan_two) (difference_of (game_sum tables tree) b.high)
  pub one_gets_at_most : KeepsTo Two tables tree (printed_numbers b.plan_two) b.high
  pub best_of_one : IsBestPayoff One tables tree (printed_numbers b.plan_two) b.high
  -- no plan of player one is sure of more than HIGH, and none of player two of more than the sum less LOW
  pub plans_of_one : (root : ℕ) (plan : List ℕ) (bound : Fraction) → IsPlanFor One tables tree root plan
      → IsSureOf One tables tree plan bound → IsAtMost bound b.high
  pub plans_of_two : (root : ℕ) (plan : List ℕ) (bound : Fraction) → IsPlanFor Two tables tree root plan
      → IsSureOf Two tables tree plan bound → IsAtMost bound (difference_of (game_sum tables tree) b.low)
  -- HIGH less LOW is the total exploitability of both plans, and so what both players together could gain
  pub gap : ℤ
  pub exploitability : IsExploitability (form_of_game tables tree) b.plan_one.root b.plan_two.root
      (printed_numbers b.plan_one)
      (printed_numbers b.plan_two) gap
  pub apart : difference_of b.high b.low ≡ fraction_of gap (game_unit tables tree * (b.plan_one.root * b.plan_two.root))
  pub gained : IsGainOfBoth tables tree b.plan_one.root b.plan_two.root (printed_numbers b.plan_one)
      (printed_numbers b.plan_two) gap

-- bounds that hold of an accepted file's game, whoever printed them, bound both players
abbrev pub BoundsHoldForBothPlayers : Type 0
BoundsHoldForBothPlayers = (bytes : List ℕ) (game : GameFile) (variant : Variant) (scale : ℕ) (b : PrintedBounds)
    → IsAccepted bytes game → BoundsHold (weighed_game game) variant scale b
    → HoldForBothPlayers (tables_of game) game.tree b

-- whoever wrote it, the second bracket of a text of version 2 that is accepted against a file bounds player two of its
-- game: what its plan is sure of, and what no plan is sure of more than
abbrev pub AcceptedSecondsBoundPlayerTwo : Type 0
AcceptedSecondsBoundPlayerTwo = (file bytes : List ℕ) (game : GameFile) (head : Head) (b : PrintedBounds)
    (second : PrintedBracket) (shown : Verdict) → IsAccepted file game → IsTextOf bytes (with_second head b second)
    → checked file bytes ≡ Ok shown
    → BoundsPlayerTwo (tables_of game) game.tree (printed_numbers b.plan_one) (printed_numbers b.plan_two) second
