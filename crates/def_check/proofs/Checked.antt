-- What is computed of a check is what the words say, and what it shows.
use Rattle.std.proofs.Common.{◌≡◌, ℕ, ◌≤◌, length, List, Option, Some, None, Result, Ok, Err, refl, sym, ap, ◌∙◌, subst}
use Rattle.std.proofs.lemmas.Bool.{le-ltb}
use Rattle.def_tree.specs.declared.Kind.TheVariants.{One, Two}
use Rattle.def_file.specs.declared.FileFault.{FileFault}
use Rattle.def_file.specs.declared.FileFault.TheVariants.{TooLong}
use Rattle.def_file.specs.Content.{GameFile}
use Rattle.def_file.specs.Reading.{game_at, most_bytes}
use Rattle.def_file.proofs.AnyLength.{game_any_length}
use Rattle.def_game_scale.specs.Faults.{GameFault, ChanceNegative, ChanceSum, NotConstantSum, NotRecall, Scale, game_fault}
use Rattle.def_game_numbers.specs.Numbers.{as_file_fault, file_fault, game_file_fault, tables_of}
use Rattle.def_cert_verdict.specs.declared.fault.TestFault.{TestFault}
use Rattle.def_plan.specs.Weighed.{WeighedGame}
use Rattle.def_cert_verdict.specs.Verdict.{Verdict}
use Rattle.def_cert_text.specs.declared.fault.CertFault.{CertFault}
use Rattle.def_cert_text.specs.Versions.{VersionedCertificate}
use Rattle.def_cert_text.specs.CertText.{versioned_in}
use Rattle.def_cert_text.proofs.TextLaws.{first_versioned_fault, versioned_reading}
use Rattle.def_cert_versions.specs.Verdict.{versioned_verdict}
use Rattle.def_check.specs.Accepting as whole
use Rattle.def_check.specs.Accepting.{read_as_accepted, read_as_game}
use Rattle.def_check.specs.Accepted.{IsAccepted}
use Rattle.def_game_numbers.specs.Weighed.{weighed_game}
use Rattle.def_check.proofs.FileAccepted.{accepted_whole_file, first_refused}
use Rattle.def_check.proofs.InNumbers.{sets_in_order, some_unit}
use Rattle.def_check.specs.Check.{Refusal, accepted_in_numbers, by_tests, checked, verdict_on, judged_if_accepted, of_file, numbers_unless_faulty}
use Rattle.def_check.specs.Shown.{Shows, ShowsOfFile}
use Rattle.def_check.specs.Checking.{AreRead, Checks, failed, passed, refused, unreadable}
use Rattle.def_check.specs.Laws.{AcceptedChecksAreShown, ChecksAreComputed}
use Rattle.def_check.proofs.Accepted.{what_is_shown}

-- what is judged of a file that was accepted, or refused
abbrev of_accepted : Result GameFile FileFault → Result VersionedCertificate CertFault → Result Verdict Refusal
of_accepted (Ok game) certificate = verdict_on (weighed_game game) certificate
of_accepted (Err fault) certificate = Err (of_file fault)

-- a file that was read is judged as one that is accepted, or not
as_accepted : (read : Result GameFile FileFault) (certificate : Result VersionedCertificate CertFault)
    → judged_if_accepted (accepted_in_numbers read) certificate ≡ of_accepted (whole.accepted read) certificate
as_accepted (Err fault) certificate = refl
as_accepted (Ok game) certificate = by_fault (game_file_fault game) refl
  where
    by_fault : (o : Option FileFault) → game_file_fault game ≡ o
        → judged_if_accepted (accepted_in_numbers (Ok game)) certificate
        ≡ of_accepted (whole.accepted (Ok game)) certificate
    by_fault None is = rw is refl
    by_fault (Some fault) is = rw is refl

-- a file that isn't too long is read by its bytes
pub read_within : (bytes : List ℕ) → length bytes ≤ most_bytes → read_as_game bytes ≡ game_at bytes
unfolding read_as_game
read_within bytes short = rw (le-ltb most_bytes (length bytes) short) refl

module _ (file bytes : List ℕ) (short : length file ≤ most_bytes) where
  checked_is : checked file bytes ≡ of_accepted (read_as_accepted file) (versioned_in bytes)
  checked_is = as_accepted (game_at file) (versioned_in bytes)
      ∙ ap (λ (r : Result GameFile FileFault). of_accepted (whole.accepted r) (versioned_in bytes)) (sym (read_within file short))

  read_first : (game : GameFile) → IsAccepted file game
      → checked file bytes ≡ verdict_on (weighed_game game) (versioned_in bytes)
  read_first game is =
      checked_is ∙ ap (λ (r : Result GameFile FileFault). of_accepted r (versioned_in bytes)) ((accepted_whole_file file game).1 is)

  -- what is computed of an accepted file and the text of a certificate is the verdict
  pub test_first : (game : GameFile) (c : VersionedCertificate) → AreRead file bytes game c
      → checked file bytes ≡ by_tests (versioned_verdict (weighed_game game) c)
  test_first game c are = read_first game are.accepted
      ∙ ap (verdict_on (weighed_game game)) ((versioned_reading bytes c).1 (are.text.fits, are.text.text))

  -- what is computed of what the words say
  checks_computed : (answer : Result Verdict Refusal) → Checks file bytes answer → checked file bytes ≡ answer
  checks_computed answer (refused fault first same) =
      checked_is
      ∙ ap (λ (r : Result GameFile FileFault). of_accepted r (versioned_in bytes)) ((first_refused file fault).1 first) ∙ sym same
  checks_computed answer (unreadable game is fault first same) =
      read_first game is ∙ ap (verdict_on (weighed_game game)) ((first_versioned_fault bytes fault).1 first) ∙ sym same
  checks_computed answer (failed game c are fault fails same) = test_first game c are ∙ ap by_tests fails ∙ sym same
  checks_computed answer (passed game c are shown passes same) = test_first game c are ∙ ap by_tests passes ∙ sym same

  by_verdict : (game : GameFile) (c : VersionedCertificate) → AreRead file bytes game c
      → (r : Result Verdict TestFault) → versioned_verdict (weighed_game game) c ≡ r → Checks file bytes (by_tests r)
  by_verdict game c are (Ok shown) is = passed game c are shown is refl
  by_verdict game c are (Err fault) is = failed game c are fault is refl

  by_text : (game : GameFile) → IsAccepted file game → (r : Result VersionedCertificate CertFault) → versioned_in bytes ≡ r
      → Checks file bytes (verdict_on (weighed_game game) r)
  by_text game is (Ok c) read =
      let text = (versioned_reading bytes c).0 read in
      by_verdict game c (record { accepted = is; text = record { fits = text.0; text = text.1 } })
      (versioned_verdict (weighed_game game) c) refl
  by_text game is (Err fault) read = unreadable game is fault ((first_versioned_fault bytes fault).0 read) refl

  by_file : (r : Result GameFile FileFault) → read_as_accepted file ≡ r
      → Checks file bytes (of_accepted r (versioned_in bytes))
  by_file (Ok game) is = by_text game ((accepted_whole_file file game).0 is) (versioned_in bytes) refl
  by_file (Err fault) is = refused fault ((first_refused file fault).0 is) refl

  -- what the words say of what is computed
  computed_checks : (answer : Result Verdict Refusal) → checked file bytes ≡ answer → Checks file bytes answer
  computed_checks answer is =
      subst (λ (r : Result Verdict Refusal). Checks file bytes r) (sym checked_is ∙ is) (by_file (read_as_accepted file) refl)

-- what is computed of the bytes is what the words say
pub checks_are : ChecksAreComputed
checks_are file bytes short answer = (checks_computed file bytes short answer, computed_checks file bytes short answer)

-- ---- no bytes are too long

-- a fault of a game isn't one of length
pub fault_any_length : (found : GameFault) → file_fault found ≡ TooLong → ⊥
fault_any_length (ChanceNegative node) is = cc
fault_any_length (ChanceSum node) is = cc
fault_any_length (NotConstantSum node) is = cc
fault_any_length (NotRecall node earlier) is = cc
fault_any_length (Scale node) is = cc

judged_any_length : (game : WeighedGame) (r : Result VersionedCertificate CertFault) → verdict_on game r ≡ Err (of_file TooLong)
    → ⊥
judged_any_length game (Err fault) is = cc
judged_any_length game (Ok c) is = by_verdict (versioned_verdict game c) is
  where
    by_verdict : (r : Result Verdict TestFault) → by_tests r ≡ Err (of_file TooLong) → ⊥
    by_verdict (Ok shown) is = cc
    by_verdict (Err fault) is = cc

module _ (game : GameFile) (certificate : Result VersionedCertificate CertFault) where
  faulty_any_length : (o : Option GameFault)
      → judged_if_accepted (numbers_unless_faulty (as_file_fault o) (weighed_game game)) certificate
      ≡ Err (of_file TooLong) → ⊥
  faulty_any_length None is = judged_any_length (weighed_game game) certificate is
  faulty_any_length (Some found) is = fault_any_length found cc

-- what is checked over bytes never says that the file is too long
pub checked_any_length : (file bytes : List ℕ) → checked file bytes ≡ Err (of_file TooLong) → ⊥
checked_any_length file bytes is = by_read (game_at file) refl is
  where
    by_read : (r : Result GameFile FileFault) → game_at file ≡ r
        → judged_if_accepted (accepted_in_numbers r) (versioned_in bytes) ≡ Err (of_file TooLong) → ⊥
    by_read (Err fault) read is =
        let same : fault ≡ TooLong = cc in
        game_any_length file (read ∙ ap Err same)
    by_read (Ok game) read is = faulty_any_length game (versioned_in bytes) (game_fault (tables_of game) game.tree) is

-- ---- what is shown

pub tested_ok : (r : Result Verdict TestFault) (shown : Verdict) → by_tests r ≡ Ok shown → r ≡ Ok shown
tested_ok (Ok found) shown is = let same : found ≡ shown = cc in ap Ok same
tested_ok (Err fault) shown is = absurd cc

module _ (file bytes : List ℕ) (shown : Verdict) (short : length file ≤ most_bytes) where
  by_certificate : (game : GameFile) → game_at file ≡ Ok game → game_file_fault game ≡ None
      → (r : Result VersionedCertificate CertFault) → versioned_in bytes ≡ r → verdict_on (weighed_game game) r ≡ Ok shown
      → ShowsOfFile file bytes shown
  by_certificate game read none (Err fault) is_read is = absurd cc
  by_certificate game read none (Ok c) is_read is =
      let said = (versioned_reading bytes c).0 is_read in
      let is_accepted : IsAccepted file game = (accepted_whole_file file game).0
      (ap whole.accepted (read_within file short ∙ read)
      ∙ ap (λ (o : Option FileFault). whole.unless_faulty o game) none) in
      record {
        game = game;
        stands = is_accepted.readable.stands;
        faultless = none;
        shows = subst (λ (b : List ℕ). Shows (weighed_game game) b shown) (sym said.1)
            (what_is_shown (weighed_game game) c shown (sets_in_order file game is_accepted.readable.stands One refl)
            (sets_in_order file game is_accepted.readable.stands Two refl) (some_unit file game is_accepted.readable.stands) said.0
            (tested_ok (versioned_verdict (weighed_game game) c) shown is));
      }

  by_fault : (game : GameFile) → game_at file ≡ Ok game → (o : Option FileFault) → game_file_fault game ≡ o
      → judged_if_accepted (numbers_unless_faulty o (weighed_game game)) (versioned_in bytes) ≡ Ok shown
      → ShowsOfFile file bytes shown
  by_fault game read None none is = by_certificate game read none (versioned_in bytes) refl is
  by_fault game read (Some fault) some is = absurd cc

  by_read : (r : Result GameFile FileFault) → game_at file ≡ r
      → judged_if_accepted (accepted_in_numbers r) (versioned_in bytes) ≡ Ok shown → ShowsOfFile file bytes shown
  by_read (Err fault) read is = absurd cc
  by_read (Ok game) read is = by_fault game read (game_file_fault game) refl is

-- what is accepted is shown
pub checks_show : AcceptedChecksAreShown
checks_show file bytes shown short is = by_read file bytes shown short (game_at file) refl is
