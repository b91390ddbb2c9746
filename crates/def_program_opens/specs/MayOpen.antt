-- Which names a command may ask the files for.
--     IsNotTooLong told       a file of these bytes is within the limit, or its bytes aren't told
--     MayOpenBoth told may f c    so may a game file, and a certificate only beside one within the limit
--     MayOpen told may c      the command's files may be opened, a certificate only beside a game file within the limit
use Rattle.std.specs.Prelude.{ℕ, ◌≤◌, List, length, All, Bool, IsTrue, Option, Some, None, IfSome}
use Rattle.def_file.specs.Reading.{most_bytes}
use Rattle.def_command.specs.Grammar.{Batch, Check, Command, Drill, Gen, Info, Plus, Solve, Upgrade}

abbrev pub IsNotTooLong : Option (List ℕ) → Type 0
IsNotTooLong told = IfSome told (λ bytes. length bytes ≤ most_bytes)

abbrev pub MayOpenBoth : (List ℕ → Option (List ℕ)) → (List ℕ → Bool) → List ℕ → List ℕ → Type 0
MayOpenBoth told may_open file certificate =
    IsTrue (may_open file) × (IsNotTooLong (told file) → IsTrue (may_open certificate))

abbrev pub MayOpen : (List ℕ → Option (List ℕ)) → (List ℕ → Bool) → Option Command → Type 0
MayOpen told may_open None = Unit {0}
MayOpen told may_open (Some (Solve file settings rows)) = IsTrue (may_open file)
MayOpen told may_open (Some (Plus file settings rows)) = IsTrue (may_open file)
MayOpen told may_open (Some (Batch files settings workers)) = All (λ file. IsTrue (may_open file)) files
MayOpen told may_open (Some (Check file certificate)) = MayOpenBoth told may_open file certificate
MayOpen told may_open (Some (Upgrade file certificate)) = MayOpenBoth told may_open file certificate
MayOpen told may_open (Some (Info file)) = IsTrue (may_open file)
MayOpen told may_open (Some (Gen cards)) = Unit {0}
MayOpen told may_open (Some (Drill cards settings rows)) = Unit {0}
