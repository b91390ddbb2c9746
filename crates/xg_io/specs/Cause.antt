-- Why opening a file and reading a whole one failed, by the count of faults of the files.
use Rattle.std.specs.Prelude.{◌≡◌, ℕ, Result, Ok, Err}
use Rattle.def_outside.specs.Cause.{RoseByOne}
use Rattle.xg_io.specs.declared.outside.OpenFault.{OpenFault}
use Rattle.xg_io.specs.declared.outside.OpenFault.TheVariants as open_faults
use Rattle.xg_io.specs.declared.reading.ReadAllFault.{ReadAllFault}
use Rattle.xg_io.specs.declared.reading.ReadAllFault.TheVariants as read_faults

-- Opening a file counts exactly one fault where it fails, and none where memory runs out.
abbrev pub OpenHasCause : {T : Type 0} → ℕ → ℕ → Result T OpenFault → Type 0
OpenHasCause before now (Ok _) = now ≡ before
OpenHasCause before now (Err open_faults.Failed) = RoseByOne before now
OpenHasCause before now (Err open_faults.NoMemory) = now ≡ before

-- Reading a whole file counts exactly one fault where it can't be opened or read, and else none.
abbrev pub ReadAllHasCause : {T : Type 0} → ℕ → ℕ → Result T ReadAllFault → Type 0
ReadAllHasCause before now (Ok _) = now ≡ before
ReadAllHasCause before now (Err read_faults.ReadFault) = RoseByOne before now
ReadAllHasCause before now (Err read_faults.TooLong) = now ≡ before
ReadAllHasCause before now (Err read_faults.NoMemory) = now ≡ before
