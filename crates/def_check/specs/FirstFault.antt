-- The first fault of a game file: its length counts before all others, then its text, then its game.
use Rattle.std.specs.Prelude.{◌≡◌, ℕ, ◌<◌, ◌≤◌, List, length}
use Rattle.def_file.specs.declared.FileFault.{FileFault}
use Rattle.def_file.specs.declared.FileFault.TheVariants.{TooLong}
use Rattle.def_file.specs.Content.{GameFile}
use Rattle.def_file.specs.Reading.{most_bytes}
use Rattle.def_file_form.specs.Laws.{StandsFor}
use Rattle.def_file_form.specs.First.{FirstFault}
use Rattle.def_game_scale.specs.Faults.{GameFault}
use Rattle.def_game_scale.specs.First.{FirstGameFault}
use Rattle.def_game_numbers.specs.Numbers.{file_fault, tables_of}

-- the first fault of a file that can't be read
pub data IsFirstOfText (bytes : List ℕ) (fault : FileFault) : Type 0 where
  in_length : fault ≡ TooLong → most_bytes < length bytes → IsFirstOfText bytes fault
  within : length bytes ≤ most_bytes → FirstFault bytes fault → IsFirstOfText bytes fault

pub data IsFirstFault (bytes : List ℕ) (fault : FileFault) : Type 0 where
  in_text : IsFirstOfText bytes fault → IsFirstFault bytes fault
  in_game : length bytes ≤ most_bytes → (game : GameFile) → StandsFor bytes game → (found : GameFault)
      → FirstGameFault (tables_of game) game.tree found → fault ≡ file_fault found → IsFirstFault bytes fault
