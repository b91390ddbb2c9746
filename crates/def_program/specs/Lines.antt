-- The line that goes with a status, and when it was said.
use Rattle.std.specs.Prelude.{◌≡◌, ℕ, ◌<◌, List, Option, Some, None}
use Rattle.def_outside.specs.Calls.{SinkCall, Says}
use Rattle.def_file.specs.declared.FileFault.{FileFault}
use Rattle.def_file.specs.declared.FileFault.TheVariants.{TooLong}
use Rattle.def_cert_verdict.specs.declared.fault.TestFault.{TestFault}
use Rattle.def_cert_text.specs.declared.fault.CertFault.{CertFault}
use Rattle.def_check.specs.Check.{most_cert_bytes}
use Rattle.def_program.specs.TextLines.{fault_line, usage_line, read_line, write_line, memory_line}
use Rattle.def_program.specs.CheckLines.{cert_fault_line, cert_long_line, test_fault_line}
use Rattle.def_file.specs.Reading.{most_bytes}
use Rattle.def_command.specs.Grammar.{Batch, Check, Command, Drill, Gen, Info, Plus, Solve, Upgrade, command_of_words}
use Rattle.def_program.specs.Meaning.{EachMeant, Means}

-- the command checks a certificate, and writes its verdict or its upgrade
abbrev pub IsCheck : Option Command → Type 0
IsCheck None = ⊥
IsCheck (Some (Solve file settings rows)) = ⊥
IsCheck (Some (Check file certificate)) = Unit {0}
IsCheck (Some (Upgrade file certificate)) = Unit {0}
IsCheck (Some (Info file)) = ⊥
IsCheck (Some (Gen cards)) = ⊥
IsCheck (Some (Drill cards settings rows)) = ⊥
IsCheck (Some (Plus file settings rows)) = ⊥
IsCheck (Some (Batch files settings workers)) = ⊥

-- The line goes with the status, where so many bytes were taken of the file that was opened last. Only where a
-- certificate is checked, which `checks` says, a fault of it is said. That a file or a certificate is too long comes
-- only where more bytes than its limit were taken, also of one that isn't told.
pub data IsLine (checks : Type 0) (taken status : ℕ) (line : List ℕ) : Type 0 where
  of_file : (fault : FileFault) → status ≡ 1 → line ≡ fault_line fault → (fault ≡ TooLong → most_bytes < taken)
      → IsLine checks taken status line
  of_long_certificate : checks → status ≡ 1 → line ≡ cert_long_line → most_cert_bytes < taken
      → IsLine checks taken status line
  of_certificate : checks → (fault : CertFault) → status ≡ 1 → line ≡ cert_fault_line fault
      → IsLine checks taken status line
  of_tests : checks → (fault : TestFault) → status ≡ 1 → line ≡ test_fault_line fault
      → IsLine checks taken status line
  of_words : status ≡ 2 → line ≡ usage_line → IsLine checks taken status line
  of_reading : status ≡ 3 → line ≡ read_line → IsLine checks taken status line
  of_writing : status ≡ 4 → line ≡ write_line → IsLine checks taken status line
  of_memory : status ≡ 5 → line ≡ memory_line → IsLine checks taken status line

-- A line that goes with the status and the words was said, or was cut off by a fault. At status 1 it is the line of the
-- answer that is meant.
pub record SaysLine (words : List (List ℕ)) (told : List ℕ → Option (List ℕ)) (status taken : ℕ) (err : SinkCall)
    : Type 0 where
  pub line : List ℕ
  pub fits : IsLine (IsCheck (command_of_words words)) taken status line
  pub answered : status ≡ 1 → EachMeant (Means words told) (λ answer. answer.line ≡ line)
  pub said : Says err line
