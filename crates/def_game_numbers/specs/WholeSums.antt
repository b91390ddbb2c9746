-- What a game's leaves pay both players together, in the game's unit.
--     IsWholeIn unit f    the fraction times the unit is whole, and within the limit
--     HasWholeSum game    the game's sum is so in its unit
use Rattle.std.specs.Prelude.{ℕ, ◌*◌, ◌≤◌, unsigned_abs}
use Rattle.std.specs.Int.{◌∣◌}
use Rattle.def_fraction.specs.Fraction.{Fraction, most}
use Rattle.def_file.specs.Content.{GameFile}
use Rattle.def_plan.specs.Weighed.{WeighedGame}
use Rattle.def_game_numbers.specs.Faultless.{IsFaultless}
use Rattle.def_game_numbers.specs.Weighed.{weighed_game}

-- the fraction times the unit is at most the limit of a part, in size
abbrev pub IsSmallTimes : ℕ → Fraction → Type 0
IsSmallTimes unit f = unsigned_abs f.num * unit ≤ most * f.den

pub record IsWholeIn (unit : ℕ) (f : Fraction) : Type 0 where
  pub whole : f.den ∣ unit
  pub small : IsSmallTimes unit f

abbrev pub HasWholeSum : WeighedGame → Type 0
HasWholeSum game = IsWholeIn game.unit game.sum

abbrev pub FaultlessGamesHaveWholeSums : Type 0
FaultlessGamesHaveWholeSums = (game : GameFile) → IsFaultless game → HasWholeSum (weighed_game game)
