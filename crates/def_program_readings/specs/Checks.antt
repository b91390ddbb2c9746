-- What is said of the certificate that words check.
use Rattle.std.specs.Prelude.{◌≡◌, ◌↔◌, ℕ, List, Option, Some, None, IfSome}
use Rattle.def_outside.specs.Calls.{SinkCall, Wrote}
use Rattle.def_file.specs.Content.{GameFile}
use Rattle.def_cert_verdict.specs.Laws.{IsHeadOf}
use Rattle.def_cert_verdict.specs.Verdict.{shown_by}
use Rattle.def_cert_text.specs.CertText.{versioned_text}
use Rattle.def_cert_text.specs.Versions.{VersionedCertificate}
use Rattle.def_cert_versions.specs.Laws.{HasItsSecond}
use Rattle.def_cert_versions.specs.Verdict.{upgraded}
use Rattle.def_check.specs.Accepted.{IsAccepted}
use Rattle.def_check.specs.Checking.{IsTextOf}
use Rattle.def_game_numbers.specs.Weighed.{weighed_game}
use Rattle.def_plus.specs.declared.Variant.TheVariants.{Plain}
use Rattle.def_command.specs.Grammar.{Batch, Check, Drill, Gen, Info, Plus, Solve, Upgrade}
use Rattle.def_command.specs.declared.RowSettings.{RowSettings}
use Rattle.def_command.specs.declared.Settings.{Settings}
use Rattle.def_command.specs.Grammar.{command_of_words}
use Rattle.def_cert_accepted.specs.Bounds.{BoundsHold}
use Rattle.def_program.specs.CheckLines.{verdict_text}
use Rattle.def_program.specs.Checked.{AreChecked, ForEachChecked}

-- the file is accepted, and the bytes are the text of a certificate with its game's head and, in version 2, its second
-- bracket; this text of it was written, and its bounds, where it has any, hold of the game by plain rounds
pub record IsShown (out : SinkCall) (text : VersionedCertificate → List ℕ) (file bytes : List ℕ) : Type 0 where
  pub game : GameFile
  pub certificate : VersionedCertificate
  pub accepted : IsAccepted file game
  pub text_of : IsTextOf bytes certificate
  pub head : IsHeadOf (weighed_game game) certificate.certificate.head
  pub second : HasItsSecond certificate
  pub wrote : Wrote out (text certificate)
  pub bounds : IfSome certificate.certificate.bounds
      (BoundsHold (weighed_game game) Plain certificate.certificate.head.scale)

-- `check` writes the verdict of what the certificate prints, `upgrade` its text in version 2, and other commands check
-- none
pub record ChecksAreRead : Type 0 where
  pub check : (words : List (List ℕ)) (told : List ℕ → Option (List ℕ)) (out : SinkCall)
      (name other file bytes : List ℕ) → command_of_words words ≡ Some (Check name other) → told name ≡ Some file
      → told other ≡ Some bytes
      → ForEachChecked words told out BoundsHold
      ↔ IsShown out (λ c. verdict_text (shown_by c.certificate.bounds)) file bytes
  pub upgrade : (words : List (List ℕ)) (told : List ℕ → Option (List ℕ)) (out : SinkCall)
      (name other file bytes : List ℕ) → command_of_words words ≡ Some (Upgrade name other) → told name ≡ Some file
      → told other ≡ Some bytes
      → ForEachChecked words told out BoundsHold ↔ IsShown out (λ c. versioned_text (upgraded c)) file bytes
  pub solve : (told : List ℕ → Option (List ℕ)) (file bytes name : List ℕ) (asked : Settings) (rows : RowSettings)
      → AreChecked (Some (Solve name asked rows)) told file bytes → ⊥
  pub plus : (told : List ℕ → Option (List ℕ)) (file bytes name : List ℕ) (asked : Settings) (rows : RowSettings)
      → AreChecked (Some (Plus name asked rows)) told file bytes → ⊥
  pub drill : (told : List ℕ → Option (List ℕ)) (file bytes : List ℕ) (cards : ℕ) (asked : Settings)
      (rows : RowSettings) → AreChecked (Some (Drill cards asked rows)) told file bytes → ⊥
  pub batch : (told : List ℕ → Option (List ℕ)) (file bytes : List ℕ) (names : List (List ℕ)) (asked : Settings)
      (workers : Option ℕ) → AreChecked (Some (Batch names asked workers)) told file bytes → ⊥
  pub info : (told : List ℕ → Option (List ℕ)) (file bytes name : List ℕ)
      → AreChecked (Some (Info name)) told file bytes → ⊥
  pub gen : (told : List ℕ → Option (List ℕ)) (file bytes : List ℕ) (cards : ℕ)
      → AreChecked (Some (Gen cards)) told file bytes → ⊥
  pub usage : (told : List ℕ → Option (List ℕ)) (file bytes : List ℕ) → AreChecked None told file bytes → ⊥
