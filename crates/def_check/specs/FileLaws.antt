-- A file is refused exactly with its first fault, and accepted exactly where it has a reading without a fault.
use Rattle.std.specs.Prelude.{◌≡◌, ◌↔◌, ℕ, List, Ok, Err}
use Rattle.def_file.specs.declared.FileFault.{FileFault}
use Rattle.def_file.specs.Content.{GameFile}
use Rattle.def_game_scale.specs.FaultLaws.{IsSound}
use Rattle.def_game_numbers.specs.Numbers.{tables_of}
use Rattle.def_check.specs.Accepting.{read_as_accepted, read_as_game}
use Rattle.def_check.specs.Accepted.{IsAccepted, IsReadable}
use Rattle.def_check.specs.FirstFault.{IsFirstFault, IsFirstOfText}

-- a file can't be read exactly where its length or its text has a fault, and that is the first
pub record FileReadingIsExact : Type 0 where
  pub refused : (bytes : List ℕ) (fault : FileFault) → (read_as_game bytes ≡ Err fault) ↔ IsFirstOfText bytes fault
  pub read : (bytes : List ℕ) (game : GameFile) → (read_as_game bytes ≡ Ok game) ↔ IsReadable bytes game

-- a file is refused exactly with its first fault
abbrev pub RefusedWithTheFirst : Type 0
RefusedWithTheFirst = (bytes : List ℕ) (fault : FileFault)
    → (read_as_accepted bytes ≡ Err fault) ↔ IsFirstFault bytes fault

-- a file is accepted as a game exactly where it is readable as this game and the game has no fault
abbrev pub AcceptedWithoutFault : Type 0
AcceptedWithoutFault = (bytes : List ℕ) (game : GameFile)
    → (read_as_accepted bytes ≡ Ok game) ↔ IsAccepted bytes game

-- of an accepted file's game chance plays by probabilities, all leaves pay both players together the same, the unit,
-- this sum in the unit and the mass are within the limit, and all remember their choices
abbrev pub AcceptedGamesAreSound : Type 0
AcceptedGamesAreSound = (bytes : List ℕ) (game : GameFile) → IsAccepted bytes game → IsSound (tables_of game) game.tree
