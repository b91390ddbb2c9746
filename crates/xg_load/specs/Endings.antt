-- How a run ends: its exit status, the line that it says, and the ends where no text was written.
use Rattle.std.specs.Prelude.{◌≡◌, ℕ, List, [], Result, Ok, Err, string_bytes}
use Rattle.def_outside.specs.Calls.{SinkCall, HasFailedOnce, HasNoFault, Wrote, WroteFront, IsUntouched}
use Rattle.def_program.specs.TextLines.{fault_line, memory_line, read_line, write_line}
use Rattle.xg_load.specs.declared.ending.Ending.{Ending}
use Rattle.xg_load.specs.declared.ending.Ending.TheVariants.{Done, Refused, ReadFault, WriteFault, NoMemory}
use Rattle.xg_load.specs.declared.loading.LoadFault.{LoadFault}
use Rattle.xg_load.specs.declared.loading.LoadFault.TheVariants as faults

abbrev pub status_of : Ending → ℕ
status_of Done = 0
status_of (Refused line) = 1
status_of ReadFault = 3
status_of WriteFault = 4
status_of NoMemory = 5

abbrev pub line_at_end : Ending → List ℕ
line_at_end Done = []
line_at_end (Refused line) = string_bytes line
line_at_end ReadFault = read_line
line_at_end WriteFault = write_line
line_at_end NoMemory = memory_line

-- the text was written, or cut off
abbrev pub IsEndingOf : {T E : Type 0} → Result T E → Ending → Type 0
IsEndingOf (Ok _) ending = ending ≡ Done
IsEndingOf (Err _) ending = ending ≡ WriteFault

-- the line was made
abbrev pub IsLineOf : List ℕ → Ending → Type 0
IsLineOf bytes (Refused line) = string_bytes line ≡ bytes
IsLineOf bytes Done = ⊥
IsLineOf bytes ReadFault = ⊥
IsLineOf bytes WriteFault = ⊥
IsLineOf bytes NoMemory = ⊥

-- the same, or there was no memory for it
abbrev pub IsLineIfRoom : List ℕ → Ending → Type 0
IsLineIfRoom bytes (Refused line) = string_bytes line ≡ bytes
IsLineIfRoom bytes NoMemory = Unit {0}
IsLineIfRoom bytes Done = ⊥
IsLineIfRoom bytes ReadFault = ⊥
IsLineIfRoom bytes WriteFault = ⊥

-- the end where a game isn't loaded: the fault's line, or the cause
abbrev pub IsUnloaded : LoadFault → Ending → Type 0
IsUnloaded (faults.Refused fault) ending = IsLineIfRoom (fault_line fault) ending
IsUnloaded faults.ReadFault ending = ending ≡ ReadFault
IsUnloaded faults.NoMemory ending = ending ≡ NoMemory

-- the end of a run that writes a text: it was written or cut off, or memory ran out before
abbrev pub Tells : List ℕ → SinkCall → Ending → Type 0
Tells text out Done = HasNoFault out.faults × Wrote out text
Tells text out WriteFault = HasFailedOnce out.faults × WroteFront out text
Tells text out NoMemory = IsUntouched out
Tells text out (Refused line) = ⊥
Tells text out ReadFault = ⊥
