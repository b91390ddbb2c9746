-- What checking answers, in the words of files, texts and tests.
--     Checks file bytes r     the certificate of these bytes and the file's give this answer
use Rattle.std.specs.Prelude.{◌≡◌, ℕ, List, Result, Ok, Err}
use Rattle.def_file.specs.declared.FileFault.{FileFault}
use Rattle.def_file.specs.Content.{GameFile}
use Rattle.def_cert_verdict.specs.declared.fault.TestFault.{TestFault}
use Rattle.def_cert_verdict.specs.Verdict.{Verdict}
use Rattle.def_cert_text.specs.declared.fault.CertFault.{CertFault}
use Rattle.def_cert_text.specs.Versions.{VersionedCertificate, VersionedFits}
use Rattle.def_cert_text.specs.CertText.{versioned_text}
use Rattle.def_cert_text.specs.FirstFault.{FirstVersionedFault}
use Rattle.def_cert_versions.specs.Verdict.{versioned_verdict}
use Rattle.def_check.specs.Accepted.{IsAccepted}
use Rattle.def_check.specs.FirstFault.{IsFirstFault}
use Rattle.def_game_numbers.specs.Weighed.{weighed_game}
use Rattle.def_check.specs.Check.{Refusal, of_certificate, of_file, of_tests}

-- the bytes are the text of the certificate, of either version, which is within its ranges
pub record IsTextOf (bytes : List ℕ) (certificate : VersionedCertificate) : Type 0 where
  pub fits : VersionedFits certificate
  pub text : bytes ≡ versioned_text certificate

-- an accepted file's game, and the certificate of the text
pub record AreRead (file bytes : List ℕ) (game : GameFile) (certificate : VersionedCertificate) : Type 0 where
  pub accepted : IsAccepted file game
  pub text : IsTextOf bytes certificate

pub data Checks (file bytes : List ℕ) (answer : Result Verdict Refusal) : Type 0 where
  refused : (fault : FileFault) → IsFirstFault file fault → answer ≡ Err (of_file fault) → Checks file bytes answer
  unreadable : (game : GameFile) → IsAccepted file game → (fault : CertFault) → FirstVersionedFault bytes fault
      → answer ≡ Err (of_certificate fault) → Checks file bytes answer
  failed : (game : GameFile) (certificate : VersionedCertificate) → AreRead file bytes game certificate
      → (fault : TestFault) → versioned_verdict (weighed_game game) certificate ≡ Err fault
      → answer ≡ Err (of_tests fault) → Checks file bytes answer
  passed : (game : GameFile) (certificate : VersionedCertificate) → AreRead file bytes game certificate
      → (shown : Verdict) → versioned_verdict (weighed_game game) certificate ≡ Ok shown → answer ≡ Ok shown
      → Checks file bytes answer
