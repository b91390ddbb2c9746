-- The game of a file that is accepted.
--     read_as_game bytes       the game of a file that can be read, or the first fault of its text
--     read_as_accepted bytes   the game of a file that is accepted, or its first fault
use Rattle.std.specs.Prelude.{ℕ, nat_lt, if◌then◌else◌, List, length, Option, Some, None, Result, Ok, Err}
use Rattle.def_file.specs.declared.FileFault.{FileFault}
use Rattle.def_file.specs.declared.FileFault.TheVariants.{TooLong}
use Rattle.def_file.specs.Content.{GameFile}
use Rattle.def_file.specs.Reading.{game_at, most_bytes}
use Rattle.def_game_numbers.specs.Numbers.{game_file_fault}

unfoldable pub read_as_game : List ℕ → Result GameFile FileFault
read_as_game bytes = if nat_lt most_bytes (length bytes) then Err TooLong else game_at bytes

-- the game, unless it has this fault
abbrev pub unless_faulty : Option FileFault → GameFile → Result GameFile FileFault
unless_faulty None game = Ok game
unless_faulty (Some fault) game = Err fault

-- what was read is accepted unless its game has a fault
abbrev pub accepted : Result GameFile FileFault → Result GameFile FileFault
accepted (Ok game) = unless_faulty (game_file_fault game) game
accepted (Err fault) = Err fault

abbrev pub read_as_accepted : List ℕ → Result GameFile FileFault
read_as_accepted bytes = accepted (read_as_game bytes)
