-- What words mean in the format's terms is what the program computes, and where their files are told, they mean one
-- answer. What `upgrade` writes is the text of an upgrade. The bounds that are printed of a game that was played hold,
-- and so do those of an accepted certificate.
use Rattle.std.specs.Prelude.{◌≡◌, ◌↔◌, ℕ, ◌≤◌, List, Option, Some, Ok}
use Rattle.def_file.specs.Content.{GameFile}
use Rattle.def_cert_verdict.specs.Verdict.{Verdict}
use Rattle.def_cert_text.specs.Versions.{VersionedCertificate}
use Rattle.def_cert_text.specs.CertText.{versioned_text}
use Rattle.def_cert_versions.specs.Verdict.{upgraded}
use Rattle.def_check.specs.Checking.{Checks, IsTextOf}
use Rattle.def_plus.specs.declared.Variant.{Variant}
use Rattle.def_command.specs.declared.Settings.{Settings}
use Rattle.def_check.specs.Accepted.{IsAccepted}
use Rattle.def_program.specs.CheckLines.{upgraded_text}
use Rattle.def_program.specs.Program.{Answer, program}
use Rattle.def_program.specs.Meaning.{Means, MeansOnly, FilesAreTold}
use Rattle.def_cert_accepted.specs.Bounds.{BoundsHold}
use Rattle.def_program.specs.Bounds.{HasItsBounds}
use Rattle.def_program.specs.Checked.{HoldsOfFile}

-- what the words mean is exactly the answer that `program` computes
abbrev pub MeaningIsComputed : Type 0
MeaningIsComputed = (words : List (List ℕ)) (told : List ℕ → Option (List ℕ)) (answer : Answer)
    → Means words told answer ↔ (program words told ≡ Some answer)

-- an answer is meant, and no other one
pub record MeansOne (words : List (List ℕ)) (told : List ℕ → Option (List ℕ)) : Type 0 where
  pub answer : Answer
  pub meant : Means words told answer
  pub only : MeansOnly (Means words told) answer

-- where the files that the words name are told, the words mean one answer and no other
abbrev pub ToldWordsMeanOne : Type 0
ToldWordsMeanOne = (words : List (List ℕ)) (told : List ℕ → Option (List ℕ)) → FilesAreTold words told
    → MeansOne words told

-- what `upgrade` writes of the text of a certificate that it accepts is the text of its upgrade
abbrev pub UpgradesAreWritten : Type 0
UpgradesAreWritten = (bytes : List ℕ) (certificate : VersionedCertificate) (shown : Verdict)
    → IsTextOf bytes certificate → upgraded_text bytes shown ≡ versioned_text (upgraded certificate)

-- an accepted file's game, played at least one round at any scale from 1, has its bounds, and they hold of it
abbrev pub PlayedGamesHaveTheirBounds : Type 0
PlayedGamesHaveTheirBounds = (variant : Variant) (bytes : List ℕ) (game : GameFile) (settings : Settings)
    → IsAccepted bytes game → 1 ≤ settings.rounds → 1 ≤ settings.scale → HasItsBounds variant game settings

-- whoever wrote the certificate: what a check shows of it holds of the game of the file
abbrev pub AcceptedCertificatesHold : Type 0
AcceptedCertificatesHold = (file bytes : List ℕ) (shown : Verdict) → Checks file bytes (Ok shown)
    → HoldsOfFile file bytes (λ certificate verdict. verdict ≡ shown) BoundsHold
