-- Which files are accepted, in the format's own words.
--     IsReadable bytes game   a file of these bytes isn't too long, and stands for the game
--     IsAccepted bytes game   and its game has no fault
use Rattle.std.specs.Prelude.{ℕ, ◌≤◌, List, length}
use Rattle.def_file.specs.Content.{GameFile}
use Rattle.def_file.specs.Reading.{most_bytes}
use Rattle.def_file_form.specs.Laws.{StandsFor}
use Rattle.def_game_paths.specs.Recall.{HasPerfectRecall}
use Rattle.def_game_scale.specs.First.{PassNumbers}
use Rattle.def_game_numbers.specs.Numbers.{tables_of}

-- a file that can be read
pub record IsReadable (bytes : List ℕ) (game : GameFile) : Type 0 where
  pub length_within : length bytes ≤ most_bytes
  pub stands : StandsFor bytes game

pub record IsAccepted (bytes : List ℕ) (game : GameFile) : Type 0 where
  pub readable : IsReadable bytes game
  pub numbers : PassNumbers (tables_of game) game.tree
  pub recall : HasPerfectRecall game.tree
