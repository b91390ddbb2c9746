-- What the rows of a player give each sequence.
use Rattle.std.specs.Prelude.{◌≡◌, ℕ, ◌≤◌, ℤ, unsigned_abs, List}
use Rattle.def_sums.specs.Limits.{most_small_rows}
use Rattle.def_sums.specs.Sum.{nat_sum_over}
use Rattle.def_tree.specs.declared.Player.{Player}
use Rattle.def_round.specs.Round.{utility}
use Rattle.def_plan.specs.FormRows.{amount_of}

-- rows are in player one's payoff, and this is what they are to the player
abbrev pub own_amount : Player → List ℤ → ℕ → ℤ
own_amount player rows s = utility player (amount_of rows s)

-- these worths are what the rows are to the player, and the rows have no more than these sizes together
pub record AreTaken (player : Player) (rows worths : List ℤ) (sizes : ℕ) : Type 0 where
  pub each : (s : ℕ) → amount_of worths s ≡ own_amount player rows s
  pub together : nat_sum_over unsigned_abs rows ≤ sizes
  pub small : sizes ≤ most_small_rows
