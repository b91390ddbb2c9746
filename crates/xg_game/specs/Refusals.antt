-- What a call answers that may refuse a file, beside what is answered by definition.
use Rattle.std.specs.Prelude.{◌≡◌, Result, Ok, Err}
use Rattle.def_file.specs.declared.FileFault.{FileFault}
use Rattle.xg_game.specs.declared.fault.Refused.{Refused}
use Rattle.xg_game.specs.declared.fault.Refused.TheVariants.{File, NoMemory}

-- a value, or the fault, where memory may run out
abbrev pub Answers : {X : Type 0} → Result X Refused → Result X FileFault → Type 0
Answers (Ok x) read = read ≡ Ok x
Answers (Err (File fault)) read = read ≡ Err fault
Answers (Err NoMemory) read = Unit {0}
