-- What a check that accepts a certificate shows, whoever wrote it: the bounds that the certificate prints hold of the
-- file's game, as those of a game that was played do.
--     HoldsOfFile        what holds of the bounds that the bytes of a certificate print, of the game of a file
--     checked_text       what a command writes of a certificate that it accepts
--     ForEachChecked     so it is for the certificate that words check, and that was written
use Rattle.std.specs.Prelude.{◌≡◌, ℕ, List, Option, Some, None, IfSome}
use Rattle.def_outside.specs.Calls.{SinkCall, Wrote}
use Rattle.def_file.specs.Content.{GameFile}
use Rattle.def_cert_verdict.specs.Certificate.{PrintedBounds}
use Rattle.def_plan.specs.Weighed.{WeighedGame}
use Rattle.def_cert_verdict.specs.Verdict.{Verdict, shown_by}
use Rattle.def_cert_verdict.specs.Laws.{IsHeadOf}
use Rattle.def_cert_text.specs.Versions.{VersionedCertificate}
use Rattle.def_cert_text.specs.CertText.{versioned_text}
use Rattle.def_cert_versions.specs.Verdict.{upgraded}
use Rattle.def_cert_versions.specs.Laws.{HasItsSecond}
use Rattle.def_check.specs.Checking.{AreRead}
use Rattle.def_game_numbers.specs.Weighed.{weighed_game}
use Rattle.def_plus.specs.declared.Variant.{Variant}
use Rattle.def_plus.specs.declared.Variant.TheVariants.{Plain}
use Rattle.def_command.specs.Grammar.{Batch, Check, Command, Drill, Gen, Info, Plus, Solve, Upgrade, command_of_words}
use Rattle.def_program.specs.CheckLines.{verdict_text}

-- ---- what holds of an accepted certificate

-- The file is accepted, and the bytes are the text of a certificate whose head is that of the file's game. In version 2
-- its second bracket is what the sum leaves of its bounds. Its verdict has its bounds, or says that there are none, and
-- this is so of the certificate and that verdict; of the bounds this holds in the file's game.
pub record HoldsOfFile (file bytes : List ℕ) (IsVerdict : VersionedCertificate → Verdict → Type 0)
    (Holds : WeighedGame → Variant → ℕ → PrintedBounds → Type 0) : Type 0 where
  pub game : GameFile
  pub certificate : VersionedCertificate
  pub read : AreRead file bytes game certificate
  pub head : IsHeadOf (weighed_game game) certificate.certificate.head
  pub second : HasItsSecond certificate
  pub verdict : IsVerdict certificate (shown_by certificate.certificate.bounds)
  pub bounds : IfSome certificate.certificate.bounds (Holds (weighed_game game) Plain
      certificate.certificate.head.scale)

-- ---- the certificates that words check

-- the command checks a certificate of these bytes against the file of these
abbrev pub CommandChecks : Command → (List ℕ → Option (List ℕ)) → List ℕ → List ℕ → Type 0
CommandChecks (Solve name asked rows) told file bytes = ⊥
CommandChecks (Check name certificate) told file bytes = (told name ≡ Some file) × (told certificate ≡ Some bytes)
CommandChecks (Upgrade name certificate) told file bytes = (told name ≡ Some file) × (told certificate ≡ Some bytes)
CommandChecks (Info name) told file bytes = ⊥
CommandChecks (Gen cards) told file bytes = ⊥
CommandChecks (Drill cards asked rows) told file bytes = ⊥
CommandChecks (Plus name asked rows) told file bytes = ⊥
CommandChecks (Batch names asked workers) told file bytes = ⊥

abbrev pub AreChecked : Option Command → (List ℕ → Option (List ℕ)) → List ℕ → List ℕ → Type 0
AreChecked None told file bytes = ⊥
AreChecked (Some command) told file bytes = CommandChecks command told file bytes

-- what a command writes of a certificate that it accepts with this verdict: `upgrade` its text in version 2, and
-- `check` the line of its verdict, with LOW and HIGH where there are bounds
abbrev pub checked_text : Option Command → VersionedCertificate → Verdict → List ℕ
checked_text (Some (Upgrade name certificate)) c shown = versioned_text (upgraded c)
checked_text command c shown = verdict_text shown

-- where the words check a certificate against a file, and both are told: what the command writes of it was written, and
-- of the bounds, where it has any, this holds
abbrev pub ForEachChecked : List (List ℕ) → (List ℕ → Option (List ℕ)) → SinkCall
    → (WeighedGame → Variant → ℕ → PrintedBounds → Type 0) → Type 0
ForEachChecked words told out Holds = (file bytes : List ℕ) → AreChecked (command_of_words words) told file bytes
    → HoldsOfFile file bytes (λ c verdict. Wrote out (checked_text (command_of_words words) c verdict)) Holds
