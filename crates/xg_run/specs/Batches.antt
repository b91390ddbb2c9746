-- What is read of the files of a batch.
--     HaveContents room contents entries   the entries of files, where their bytes are told
use Rattle.std.specs.Prelude.{◌≡◌, ℕ, ◌-◌, List, [], ◌∷◌, Option, IfSome, Result, Ok, Err}
use Rattle.def_outside.specs.Cause.{RoseByOne}
use Rattle.def_batch.specs.Batch.{BatchEntry, batch_entry, entry_bytes}
use Rattle.xg_load.specs.declared.ending.Ending.{Ending}
use Rattle.xg_load.specs.declared.ending.Ending.TheVariants as endings

-- each file that is told has the entry of its bytes, with the room that the files before it leave
abbrev pub HaveContents : ℕ → List (Option (List ℕ)) → List BatchEntry → Type 0
HaveContents room [] [] = Unit {0}
HaveContents room [] (entry ∷ entries) = ⊥
HaveContents room (content ∷ contents) [] = ⊥
HaveContents room (content ∷ contents) (entry ∷ entries) =
    IfSome content (λ bytes. batch_entry room bytes ≡ entry) × HaveContents (room - entry_bytes entry) contents entries

-- exactly one fault is counted where a file can't be read, and else none
abbrev pub BatchHasCause : {T : Type 0} → ℕ → ℕ → Result T Ending → Type 0
BatchHasCause before now (Ok _) = now ≡ before
BatchHasCause before now (Err endings.ReadFault) = RoseByOne before now
BatchHasCause before now (Err endings.NoMemory) = now ≡ before
BatchHasCause before now (Err endings.Done) = ⊥
BatchHasCause before now (Err (endings.Refused line)) = ⊥
BatchHasCause before now (Err endings.WriteFault) = ⊥
