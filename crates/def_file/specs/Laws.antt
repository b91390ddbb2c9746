-- What a fault of reading says.
use Rattle.std.specs.Prelude.{◌≢◌, ℕ, List, Err}
use Rattle.def_file.specs.declared.FileFault.TheVariants.{TooLong}
use Rattle.def_file.specs.Reading.{game_at}

-- reading itself sets no limit to the number of bytes
abbrev pub ReadingTakesAnyLength : Type 0
ReadingTakesAnyLength = (bytes : List ℕ) → game_at bytes ≢ Err TooLong
