-- Which names a command may ask the files for, in other words.
--     MayOpenEach may_open command    each file that the command names may be opened
--     AsksForTwo make                 a command of a game file and a certificate asks for both, the certificate only
--                                     where the game file isn't told to be too long
--     OpeningsAreRead                 what `MayOpen` says of each command, both ways
use Rattle.std.specs.Prelude.{◌≡◌, ◌↔◌, ℕ, ◌<◌, ◌≤◌, List, length, Bool, IsTrue, Contains, Option, Some, None}
use Rattle.def_file.specs.Reading.{most_bytes}
use Rattle.def_command.specs.Grammar.{Check, Command, Upgrade, files_of}
use Rattle.def_program.specs.Lines.{IsCheck}
use Rattle.def_program_opens.specs.MayOpen.{MayOpen}

abbrev pub MayOpenEach : (List ℕ → Bool) → Option Command → Type 0
MayOpenEach may_open command = (name : List ℕ) → Contains (files_of command) name → IsTrue (may_open name)

-- where the game file is told to be too long, it alone may be opened; where it is told to be within the limit, or isn't
-- told, both may
pub record AsksForTwo (make : List ℕ → List ℕ → Command) : Type 0 where
  pub too_long : (told : List ℕ → Option (List ℕ)) (may_open : List ℕ → Bool) (file certificate bytes : List ℕ)
      → told file ≡ Some bytes → most_bytes < length bytes
      → MayOpen told may_open (Some (make file certificate)) ↔ IsTrue (may_open file)
  pub within : (told : List ℕ → Option (List ℕ)) (may_open : List ℕ → Bool) (file certificate bytes : List ℕ)
      → told file ≡ Some bytes → length bytes ≤ most_bytes
      → MayOpen told may_open (Some (make file certificate)) ↔ MayOpenEach may_open (Some (make file certificate))
  pub untold : (told : List ℕ → Option (List ℕ)) (may_open : List ℕ → Bool) (file certificate : List ℕ)
      → told file ≡ None
      → MayOpen told may_open (Some (make file certificate)) ↔ MayOpenEach may_open (Some (make file certificate))

-- exactly all files that are named may be opened, where no certificate is checked
pub record OpeningsAreRead : Type 0 where
  pub others : (told : List ℕ → Option (List ℕ)) (may_open : List ℕ → Bool) (command : Option Command)
      → (IsCheck command → ⊥) → MayOpen told may_open command ↔ MayOpenEach may_open command
  pub check : AsksForTwo Check
  pub upgrade : AsksForTwo Upgrade
