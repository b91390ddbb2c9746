-- Checking a certificate of either version against the file of a game: the file's first fault decides, then the
-- certificate's, then the first test that fails.
--     accepted read                     the game that was read in numbers, unless it has a fault
--     Refusal                           why a certificate isn't accepted
--     checked game_bytes cert_bytes     what the certificate shows of the game, or why it isn't accepted
use Rattle.std.specs.Prelude.{ℕ, List, Option, Some, None, Result, Ok, Err}
use Rattle.def_file.specs.declared.FileFault.{FileFault}
use Rattle.def_file.specs.Content.{GameFile}
use Rattle.def_file.specs.Reading.{game_at}
use Rattle.def_game_numbers.specs.Numbers.{game_file_fault}
use Rattle.def_cert_verdict.specs.declared.fault.TestFault.{TestFault}
use Rattle.def_plan.specs.Weighed.{WeighedGame}
use Rattle.def_cert_verdict.specs.Verdict.{Verdict}
use Rattle.def_cert_text.specs.declared.fault.CertFault.{CertFault}
use Rattle.def_cert_text.specs.Versions.{VersionedCertificate}
use Rattle.def_cert_text.specs.CertText.{versioned_in}
use Rattle.def_cert_versions.specs.Verdict.{versioned_verdict}
use Rattle.def_game_numbers.specs.Weighed.{weighed_game}
use Rattle.def_check.specs.declared.TheConstants.{MOST_CERT_BYTES}

-- the greatest number of bytes of a certificate
abbrev pub most_cert_bytes : ℕ
most_cert_bytes = MOST_CERT_BYTES

pub data Refusal : Type 0 where
  of_file : FileFault → Refusal
  of_certificate : CertFault → Refusal
  of_tests : TestFault → Refusal

abbrev pub by_tests : Result Verdict TestFault → Result Verdict Refusal
by_tests (Ok shown) = Ok shown
by_tests (Err fault) = Err (of_tests fault)

-- a game without a fault against what the certificate's bytes say
abbrev pub verdict_on : WeighedGame → Result VersionedCertificate CertFault → Result Verdict Refusal
verdict_on game (Ok certificate) = by_tests (versioned_verdict game certificate)
verdict_on game (Err fault) = Err (of_certificate fault)

abbrev pub numbers_unless_faulty : Option FileFault → WeighedGame → Result WeighedGame FileFault
numbers_unless_faulty None game = Ok game
numbers_unless_faulty (Some fault) game = Err fault

-- a game that was read, in numbers
abbrev pub accepted_in_numbers : Result GameFile FileFault → Result WeighedGame FileFault
accepted_in_numbers (Ok game) = numbers_unless_faulty (game_file_fault game) (weighed_game game)
accepted_in_numbers (Err fault) = Err fault

abbrev pub judged_if_accepted : Result WeighedGame FileFault → Result VersionedCertificate CertFault
    → Result Verdict Refusal
judged_if_accepted (Ok game) certificate = verdict_on game certificate
judged_if_accepted (Err fault) certificate = Err (of_file fault)

abbrev pub checked : List ℕ → List ℕ → Result Verdict Refusal
checked game_bytes cert_bytes = judged_if_accepted (accepted_in_numbers (game_at game_bytes)) (versioned_in cert_bytes)
