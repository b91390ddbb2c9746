-- The game of a file without a fault.
use Rattle.std.specs.Prelude.{◌≡◌, None}
use Rattle.def_file.specs.Content.{GameFile}
use Rattle.def_file.specs.Game.{HasFractions, IsWholeGame}
use Rattle.def_game_numbers.specs.Numbers.{game_file_fault}

pub record IsFaultless (game : GameFile) : Type 0 where
  pub whole : IsWholeGame game
  pub fractions : HasFractions game.sets game.outcomes
  pub no_fault : game_file_fault game ≡ None
