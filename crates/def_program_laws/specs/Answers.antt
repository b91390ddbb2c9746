-- A success is of one game or of one certificate: what is said of each game that words play, and of each certificate
-- that they check, is said of just one.
--     IsPlayer command                 the command plays one game: `solve`, `drill` and `plus` do
--     WritesOneGame command told a     it plays one game, whose text the answer is
--     ShowsOneCheck command told a     it checks one certificate against one file; the answer is its verdict or upgrade
use Rattle.std.specs.Prelude.{◌≡◌, ◌↔◌, ℕ, List, ◌++◌, Option, Some, None, Ok}
use Rattle.def_cert_verdict.specs.Verdict.{Verdict}
use Rattle.def_cert_text.specs.Versions.{VersionedCertificate}
use Rattle.def_check.specs.Checking.{Checks, IsTextOf}
use Rattle.def_command.specs.Grammar.{Batch, Check, Command, Drill, Gen, Info, Plus, Solve, Upgrade}
use Rattle.def_command.specs.declared.Settings.{Settings}
use Rattle.def_command.specs.Grammar.{command_of_words}
use Rattle.def_program.specs.Text.{played_text}
use Rattle.def_batch.specs.Batch.{Kept, item_of}
use Rattle.def_program.specs.BatchText.{item_text}
use Rattle.def_program.specs.Program.{Answer, file_answer, program, refusal, solved}
use Rattle.def_program.specs.Meaning.{Means}
use Rattle.def_program.specs.Bounds.{IsPlayed, PlayedPart}
use Rattle.def_program.specs.Checked.{AreChecked, checked_text}
use Rattle.def_program.specs.Lines.{IsCheck}

-- the command plays one game
abbrev pub IsPlayer : Option Command → Type 0
IsPlayer None = ⊥
IsPlayer (Some (Solve file settings rows)) = Unit {0}
IsPlayer (Some (Check file certificate)) = ⊥
IsPlayer (Some (Upgrade file certificate)) = ⊥
IsPlayer (Some (Info file)) = ⊥
IsPlayer (Some (Gen cards)) = ⊥
IsPlayer (Some (Drill cards settings rows)) = Unit {0}
IsPlayer (Some (Plus file settings rows)) = Unit {0}
IsPlayer (Some (Batch files settings workers)) = ⊥

-- one game is played, by one variant of rounds and with one choice of settings, and the text is that of this game
pub record WritesOneGame (command : Option Command) (told : List ℕ → Option (List ℕ)) (answer : Answer) : Type 0 where
  pub part : PlayedPart
  pub played : IsPlayed command told part
  pub only : (other : PlayedPart) → IsPlayed command told other → other ≡ part
  pub text : answer.text ≡ played_text part.variant part.game part.settings

-- where words that play a game mean a success, it is of one game
abbrev pub SuccessIsOfOneGame : Type 0
SuccessIsOfOneGame = (words : List (List ℕ)) (told : List ℕ → Option (List ℕ)) (answer : Answer)
    → IsPlayer (command_of_words words) → Means words told answer → answer.status ≡ 0
    → WritesOneGame (command_of_words words) told answer

-- a batch is never refused: where all its files are told, a text is meant
abbrev pub BatchesAreNeverRefused : Type 0
BatchesAreNeverRefused = (words files : List (List ℕ)) (told : List ℕ → Option (List ℕ)) (settings : Settings)
    (workers : Option ℕ) (answer : Answer) → command_of_words words ≡ Some (Batch files settings workers)
    → Means words told answer → answer.status ≡ 0

-- the part of a file that is kept is what `solve` writes of it alone, or else the line that `solve` says of it
abbrev pub PartsAreSolvedAlone : Type 0
PartsAreSolvedAlone = (settings : Settings) (bytes : List ℕ)
    → item_text settings (item_of (Kept bytes))
    ≡ (file_answer (solved settings) bytes).text ++ (file_answer (solved settings) bytes).line

-- one certificate is checked against one file, and the text is what the command writes of it with what is found
pub record ShowsOneCheck (command : Option Command) (told : List ℕ → Option (List ℕ)) (answer : Answer) : Type 0 where
  pub file : List ℕ
  pub bytes : List ℕ
  pub checked : AreChecked command told file bytes
  pub only : (other left : List ℕ) → AreChecked command told other left → (other ≡ file) × (left ≡ bytes)
  pub certificate : VersionedCertificate
  pub said : IsTextOf bytes certificate
  pub shown : Verdict
  pub found : Checks file bytes (Ok shown)
  pub text : answer.text ≡ checked_text command certificate shown

-- where words that check a certificate mean a success, it is of one certificate and one file
abbrev pub SuccessIsOfOneCheck : Type 0
SuccessIsOfOneCheck = (words : List (List ℕ)) (told : List ℕ → Option (List ℕ)) (answer : Answer)
    → IsCheck (command_of_words words) → Means words told answer → answer.status ≡ 0
    → ShowsOneCheck (command_of_words words) told answer

-- words of `upgrade` are refused with a line exactly where words of `check` of the same files are
abbrev pub UpgradesAreRefusedAsChecks : Type 0
UpgradesAreRefusedAsChecks = (words checkers : List (List ℕ)) (told : List ℕ → Option (List ℕ))
    (file certificate line : List ℕ) → command_of_words words ≡ Some (Upgrade file certificate)
    → command_of_words checkers ≡ Some (Check file certificate)
    → (program words told ≡ Some (refusal line)) ↔ (program checkers told ≡ Some (refusal line))
