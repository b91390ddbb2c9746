-- A file has one reading at most, and what is accepted is what has a reading without a fault.
use Rattle.std.specs.Prelude.{◌≡◌, ℕ, List, Ok}
use Rattle.def_file.specs.Content.{Prologue, Record, GameFile}
use Rattle.def_file.specs.Game.{IsWholeGame, HasFractions}
use Rattle.def_file.specs.Reading.{game_at}
use Rattle.def_file.specs.Entries.{game_of_entries}
use Rattle.def_file.specs.EntryLaws.{HaveNoFault}
use Rattle.def_file_form.specs.Form.{IsFile}

-- the bytes have a reading whose entries have no fault, and stand for the game of it
pub record StandsFor (bytes : List ℕ) (game : GameFile) : Type 0 where
  pub prologue : Prologue
  pub entries : List Record
  pub file : IsFile bytes prologue entries
  pub no_fault : HaveNoFault entries
  pub game_is : game ≡ game_of_entries prologue entries

-- a file has one reading at most
abbrev pub OneReading : Type 0
OneReading = (bytes : List ℕ) (p q : Prologue) (rs ts : List Record) → IsFile bytes p rs → IsFile bytes q ts
    → (p ≡ q) × (rs ≡ ts)

-- what is read as a game has a reading without a fault that stands for this game
abbrev pub AcceptedIsFile : Type 0
AcceptedIsFile = (bytes : List ℕ) (game : GameFile) → game_at bytes ≡ Ok game → StandsFor bytes game

-- what has a reading without a fault is read as the game that it stands for
abbrev pub FileIsAccepted : Type 0
FileIsAccepted = (bytes : List ℕ) (game : GameFile) → StandsFor bytes game → game_at bytes ≡ Ok game

-- the sets and outcomes of a file's game go with its tree, and its fractions are in lowest terms within the limit
abbrev pub StandsForWholeGame : Type 0
StandsForWholeGame = (bytes : List ℕ) (game : GameFile) → StandsFor bytes game
    → IsWholeGame game × HasFractions game.sets game.outcomes
