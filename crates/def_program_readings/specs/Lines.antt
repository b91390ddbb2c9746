-- The line of each status, and when it was said.
--     IsFaultLine checks taken line    the line of status 1: a fault of a file, or of a certificate that is checked
use Rattle.std.specs.Prelude.{◌≡◌, ◌↔◌, ◌⊎◌, ℕ, ◌<◌, List, Option, Some, None}
use Rattle.def_outside.specs.Calls.{Says, SinkCall}
use Rattle.def_file.specs.declared.FileFault.{FileFault}
use Rattle.def_file.specs.declared.FileFault.TheVariants.{TooLong}
use Rattle.def_cert_verdict.specs.declared.fault.TestFault.{TestFault}
use Rattle.def_cert_text.specs.declared.fault.CertFault.{CertFault}
use Rattle.def_command.specs.Grammar.{Batch, Check, Drill, Gen, Info, Plus, Solve, Upgrade}
use Rattle.def_command.specs.declared.RowSettings.{RowSettings}
use Rattle.def_command.specs.declared.Settings.{Settings}
use Rattle.def_command.specs.Grammar.{command_of_words}
use Rattle.def_program.specs.CheckLines.{cert_fault_line, cert_long_line, test_fault_line}
use Rattle.def_program.specs.Lines.{IsCheck, IsLine, SaysLine}
use Rattle.def_program.specs.Meaning.{Means}
use Rattle.def_program.specs.Program.{Answer}
use Rattle.def_program.specs.TextLines.{fault_line, memory_line, read_line, usage_line, write_line}

-- the line of a file's fault, and that it is too long only of one of more bytes; that of a certificate which is too
-- long, of a fault of its text, or of a test that fails
abbrev pub IsFaultLine : Type 0 → ℕ → List ℕ → Type 0
IsFaultLine checks taken line =
    ((fault : FileFault) × (line ≡ fault_line fault) × (fault ≡ TooLong → 67108864 < taken))
    ⊎ (checks × (((line ≡ cert_long_line) × (268435456 < taken))
    ⊎ (((fault : CertFault) × (line ≡ cert_fault_line fault))
    ⊎ ((fault : TestFault) × (line ≡ test_fault_line fault)))))

-- of words, whose command checks a certificate or not: each status has these lines, and no other status has one
pub record LinesAreRead : Type 0 where
  pub of_fault : (words : List (List ℕ)) (taken : ℕ) (line : List ℕ)
      → IsLine (IsCheck (command_of_words words)) taken 1 line
      ↔ IsFaultLine (IsCheck (command_of_words words)) taken line
  pub of_words : (words : List (List ℕ)) (taken : ℕ) (line : List ℕ)
      → IsLine (IsCheck (command_of_words words)) taken 2 line ↔ (line ≡ usage_line)
  pub of_reading : (words : List (List ℕ)) (taken : ℕ) (line : List ℕ)
      → IsLine (IsCheck (command_of_words words)) taken 3 line ↔ (line ≡ read_line)
  pub of_writing : (words : List (List ℕ)) (taken : ℕ) (line : List ℕ)
      → IsLine (IsCheck (command_of_words words)) taken 4 line ↔ (line ≡ write_line)
  pub of_memory : (words : List (List ℕ)) (taken : ℕ) (line : List ℕ)
      → IsLine (IsCheck (command_of_words words)) taken 5 line ↔ (line ≡ memory_line)
  pub none : (words : List (List ℕ)) (taken : ℕ) (line : List ℕ)
      → IsLine (IsCheck (command_of_words words)) taken 0 line → ⊥

-- `check` and `upgrade` check a certificate, and no other words do
pub record ChecksSayFaults : Type 0 where
  pub check : (file certificate : List ℕ) → IsCheck (Some (Check file certificate))
  pub upgrade : (file certificate : List ℕ) → IsCheck (Some (Upgrade file certificate))
  pub solve : (file : List ℕ) (asked : Settings) (rows : RowSettings) → IsCheck (Some (Solve file asked rows)) → ⊥
  pub plus : (file : List ℕ) (asked : Settings) (rows : RowSettings) → IsCheck (Some (Plus file asked rows)) → ⊥
  pub drill : (cards : ℕ) (asked : Settings) (rows : RowSettings) → IsCheck (Some (Drill cards asked rows)) → ⊥
  pub batch : (files : List (List ℕ)) (asked : Settings) (workers : Option ℕ)
      → IsCheck (Some (Batch files asked workers)) → ⊥
  pub info : (file : List ℕ) → IsCheck (Some (Info file)) → ⊥
  pub gen : (cards : ℕ) → IsCheck (Some (Gen cards)) → ⊥
  pub usage : IsCheck None → ⊥

-- there is a line that was said and goes with the status, and at status 1 it is that of each answer that is meant
abbrev pub SaidIsMeant : Type 0
SaidIsMeant = (words : List (List ℕ)) (told : List ℕ → Option (List ℕ)) (status taken : ℕ) (err : SinkCall)
    → SaysLine words told status taken err
    ↔ ((line : List ℕ) × Says err line × IsLine (IsCheck (command_of_words words)) taken status line
    × (status ≡ 1 → (answer : Answer) → Means words told answer → answer.line ≡ line))
