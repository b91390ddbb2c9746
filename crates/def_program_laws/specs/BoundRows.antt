-- Worked rows: the exploitability of two plans of matching pennies, and what the bounds of two plans say of both
-- players.
use Rattle.std.specs.Prelude.{◌≡◌, ℕ, ◌*◌, List, [], ◌∷◌, ℤ, pos}
use Rattle.def_tree.specs.declared.Player.TheVariants.{One, Two}
use Rattle.def_tree.specs.Rules.{matching_pennies}
use Rattle.def_fraction.specs.Fraction.{Fraction, fraction_of, over, sum_of}
use Rattle.def_game_scale.specs.Tables.{game_sum}
use Rattle.def_game_scale.specs.Scale.{game_unit}
use Rattle.def_plan.specs.Pennies.{pennies}
use Rattle.def_reply.specs.Bounds.{IsExploitability}
use Rattle.def_constant_sum.specs.Expected.{expected_payoff}
use Rattle.def_fraction.specs.Order.{difference_of}
use Rattle.def_constant_sum.specs.Rows.{coin_tables, mostly_tails}

-- player one plays tails, with root 1
abbrev tails_of_one : List ℕ
tails_of_one = 1 ∷ 0 ∷ 1 ∷ []

-- player two plays heads, with root 2
abbrev heads_of_two : List ℕ
heads_of_two = 2 ∷ 2 ∷ 0 ∷ []

-- Player one's best payoff against player two's plan is 2, which counts once, and player two's best reply leaves -1 to
-- player one's plan, which counts twice.
pub record ExploitabilityRows : Type 0 where
  pub apart : IsExploitability pennies 1 2 tails_of_one heads_of_two (pos 4)
  pub only : (gap : ℤ) → IsExploitability pennies 1 2 tails_of_one heads_of_two gap → gap ≡ pos 4

-- heads as often as tails
abbrev evenly : List ℕ
evenly = 2 ∷ 1 ∷ 1 ∷ []

-- player one's bounds of these plans where the players play for one coin
abbrev coin_low : Fraction
coin_low = over (pos 1) 2

abbrev coin_high : Fraction
coin_high = over (pos 2) 3

-- both players are expected to get 1/2; player one could get 2/3 by tails, and player two no more
pub record BothPlayersRows : Type 0 where
  pub one : expected_payoff One coin_tables matching_pennies evenly mostly_tails ≡ over (pos 1) 2
  pub two : expected_payoff Two coin_tables matching_pennies evenly mostly_tails ≡ over (pos 1) 2
  pub best_of_one : expected_payoff One coin_tables matching_pennies tails_of_one mostly_tails ≡ coin_high
  pub two_gets : difference_of (game_sum coin_tables matching_pennies) coin_high ≡ over (pos 1) 3
  pub two_gets_at_most : difference_of (game_sum coin_tables matching_pennies) coin_low ≡ over (pos 1) 2
  pub apart : difference_of coin_high coin_low ≡ over (pos 1) 6
  pub gap : fraction_of (pos 1) (game_unit coin_tables matching_pennies * (2 * 3)) ≡ over (pos 1) 6
  pub gains : sum_of (difference_of coin_high (over (pos 1) 2)) (difference_of (over (pos 1) 2) (over (pos 1) 2))
      ≡ over (pos 1) 6
