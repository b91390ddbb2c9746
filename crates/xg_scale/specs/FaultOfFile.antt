-- Faults of a game as those of a file.
use Rattle.std.specs.Prelude.{◌≡◌, Option, Some}
use Rattle.def_file.specs.declared.FileFault.{FileFault}
use Rattle.def_game_scale.specs.Faults.{GameFault}
use Rattle.def_game_numbers.specs.Numbers.{as_file_fault}
use Rattle.xg_game.specs.declared.fault.Refused.{Refused}
use Rattle.xg_game.specs.declared.fault.Refused.TheVariants.{File, NoMemory}

-- the fault is the one that was found
abbrev pub IsFaultOf : Option GameFault → FileFault → Type 0
IsFaultOf found fault = as_file_fault found ≡ Some fault

-- memory apart, a refusal is by the fault that was found
abbrev pub RefusesBy : Option GameFault → Refused → Type 0
RefusesBy found (File fault) = IsFaultOf found fault
RefusesBy found NoMemory = Unit {0}
