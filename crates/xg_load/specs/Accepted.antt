-- What opening a game gives.
use Rattle.std.specs.Prelude.{◌≡◌, Some, None, Result, Ok, Err}
use Rattle.def_file.specs.Content.{GameFile}
use Rattle.def_game_numbers.specs.Numbers.{game_file_fault}
use Rattle.xg_game.specs.declared.fault.Refused.{Refused}
use Rattle.xg_game.specs.declared.fault.Refused.TheVariants.{File, NoMemory}

-- the game where it has no fault, and else its first one; memory may run out
abbrev pub Opens : GameFile → Result GameFile Refused → Type 0
Opens game (Ok accepted) = (accepted ≡ game) × (game_file_fault game ≡ None)
Opens game (Err (File fault)) = game_file_fault game ≡ Some fault
Opens game (Err NoMemory) = Unit {0}
