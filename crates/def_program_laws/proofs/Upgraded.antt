-- What `upgrade` writes is accepted, and is its own upgrade; and where `upgrade` is refused, `check` is so, too.
use Rattle.std.proofs.Common.{◌≡◌, ℕ, ◌≤◌, Bool, true, false, cond, nat_lt, List, length, Option, Some, None, Result, Ok, Err, refl, sym, ap, ◌∙◌, subst}
use Rattle.std.specs.Option.{option_map}
use Rattle.std.proofs.lemmas.Option.{same_Some}
use Rattle.def_file.specs.declared.FileFault.TheVariants.{TooLong}
use Rattle.def_file.specs.Reading.{most_bytes}
use Rattle.def_cert_verdict.specs.Verdict.{Verdict}
use Rattle.def_cert_text.specs.CertText.{versioned_text}
use Rattle.def_cert_text.proofs.TextLaws.{versioned_reading}
use Rattle.def_cert_versions.specs.Verdict.{upgraded}
use Rattle.def_cert_versions.proofs.Upgrades.{upgraded_texts}
use Rattle.def_check.specs.Check.{Refusal, checked, most_cert_bytes}
use Rattle.def_check.specs.Checking.{Checks, failed, passed, refused, unreadable}
use Rattle.def_check.proofs.Checked.{checks_are}
use Rattle.def_check.proofs.InNumbers.{faultless_game}
use Rattle.def_command.specs.Grammar.{Command}
use Rattle.def_program.specs.TextLines.{fault_line}
use Rattle.def_program.specs.CheckLines.{cert_long_line, check_text, upgraded_text}
use Rattle.def_program.specs.Meaning.{BothMean, CheckMeans, IsMeant}
use Rattle.def_program.specs.Program.{Answer, answer_of, both_told, certificate_answer, check_answer, check_told, refusal, success}
use Rattle.def_program.proofs.Checked.{upgraded_is}
use Rattle.def_program.proofs.Meant.{meaning_computed}
use Rattle.def_program_laws.specs.Answers.{UpgradesAreRefusedAsChecks}
use Rattle.def_program_laws.specs.SolveLaws.{IsAcceptedAgain, UpgradedTextsAreAcceptedAgain, WhatUpgradeWritesCheckAccepts}
use Rattle.def_program_laws.proofs.CertificatesAreShort.{accepted_short}
use Rattle.def_program_laws.proofs.Solved.{said_of, text_is_taken}
use Rattle.def_program_laws.proofs.Successes.{of_check}

module _ (file bytes : List ℕ) (shown : Verdict) (short : length file ≤ most_bytes) where
  by_check : Checks file bytes (Ok shown) → IsAcceptedAgain file (upgraded_text bytes shown) shown
  by_check (refused fault first same) = absurd cc
  by_check (unreadable game is fault first same) = absurd cc
  by_check (failed game c read fault fails same) = absurd cc
  by_check (passed game c read found passes same) =
      let told : found ≡ shown = cc in
      let text = versioned_text (upgraded c) in
      let read_as = (versioned_reading bytes c).1 (read.text.fits, read.text.text) in
      let it = upgraded_texts game bytes c shown (faultless_game file game read.accepted) read_as (passes ∙ ap Ok told) in
      let fits = ((versioned_reading text (upgraded c)).0 it.read).0 in
      let accepted = text_is_taken file game read.accepted (upgraded c) shown fits it.accepted in
      subst (λ (t : List ℕ). IsAcceptedAgain file t shown) (sym (upgraded_is bytes c shown read.text))
      (record {
        accepted = accepted;
        again = upgraded_is text (upgraded c) shown (record { fits = fits; text = refl });
        short = accepted_short file text shown short accepted;
      })

-- the upgrade of an accepted text is accepted, is its own upgrade, and isn't too long
pub accepted_again : UpgradedTextsAreAcceptedAgain
accepted_again file bytes shown short is =
    by_check file bytes shown short ((checks_are file bytes short (Ok shown)).1 is)

-- what `upgrade` wrote, `check` accepts, and `upgrade` writes again
pub upgrade_accepts : WhatUpgradeWritesCheckAccepts
upgrade_accepts words checkers again told after path cert_path game_path text_path file bytes text upgrade file_there there wrote check once_more game_there
    text_there =
    let means : BothMean upgraded_text (told path) (told cert_path) (success text) =
    subst (λ (c : Option Command). IsMeant c told (success text)) upgrade ((meaning_computed words told (success text)).1 wrote) in
    let check_means : CheckMeans upgraded_text file (Some bytes) (success text) =
    subst (λ (o : Option (List ℕ)). CheckMeans upgraded_text file o (success text)) there
    (subst (λ (o : Option (List ℕ)). BothMean upgraded_text o (told cert_path) (success text)) file_there means) in
    let of = of_check upgraded_text file bytes (success text) refl check_means in
    let was = (checks_are file bytes of.length_within (Ok of.shown)).0 of.found in
    let it = subst (λ (t : List ℕ). IsAcceptedAgain file t of.shown) (sym of.text_is)
    (accepted_again file bytes of.shown of.length_within was) in
    record {
      shown = of.shown;
      was = was;
      said = ap (λ (c : Option Command). answer_of c after) check
          ∙ said_of check_text (after game_path) (after text_path) file text of.shown game_there text_there of.length_within
          it.short it.accepted;
      same = ap (λ (c : Option Command). answer_of c after) once_more
          ∙ said_of upgraded_text (after game_path) (after text_path) file text of.shown game_there text_there of.length_within
          it.short it.accepted
          ∙ ap (λ (t : List ℕ). Some (success t)) it.again;
    }

-- ---- refusals
-- what is refused is refused so whatever the text of what is accepted is
module _ (text other : List ℕ → Verdict → List ℕ) (line : List ℕ) where
  found_alike : (bytes : List ℕ) (found : Result Verdict Refusal) → check_answer (text bytes) found ≡ refusal line
      → check_answer (other bytes) found ≡ refusal line
  found_alike bytes (Err why) is = is
  found_alike bytes (Ok shown) is = let status : ◌≡◌ {A = ℕ} 0 1 = ap (λ (a : Answer). a.status) is in absurd cc

  told_alike : (file : List ℕ) (second : Option (List ℕ)) → check_told text file second ≡ Some (refusal line)
      → check_told other file second ≡ Some (refusal line)
  told_alike file second is = by_file (nat_lt most_bytes (length file)) second is
    where
      long : Answer
      long = refusal (fault_line TooLong)

      by_certificate : (bytes : List ℕ) (longer : Bool)
          → cond longer (refusal cert_long_line) (check_answer (text bytes) (checked file bytes)) ≡ refusal line
          → cond longer (refusal cert_long_line) (check_answer (other bytes) (checked file bytes)) ≡ refusal line
      by_certificate bytes true is = is
      by_certificate bytes false is = found_alike bytes (checked file bytes) is

      by_file : (longer : Bool) (second : Option (List ℕ))
          → cond longer (Some long) (option_map (certificate_answer text file) second) ≡ Some (refusal line)
          → cond longer (Some long) (option_map (certificate_answer other file) second) ≡ Some (refusal line)
      by_file true second is = is
      by_file false None is = is
      by_file false (Some bytes) is =
          ap Some (by_certificate bytes (nat_lt most_cert_bytes (length bytes))
          (same_Some (certificate_answer text file bytes) (refusal line) is))

  both_alike : (first second : Option (List ℕ)) → both_told text first second ≡ Some (refusal line)
      → both_told other first second ≡ Some (refusal line)
  both_alike None second is = is
  both_alike (Some file) second is = told_alike file second is

-- `upgrade` is refused as `check` is
pub refused_as_checks : UpgradesAreRefusedAsChecks
refused_as_checks words checkers told file certificate line upgrade check =
    let upgraded_as = ap (λ (c : Option Command). answer_of c told) upgrade in
    let checked_as = ap (λ (c : Option Command). answer_of c told) check in (
      λ is. checked_as ∙ both_alike upgraded_text check_text line (told file) (told certificate) (sym upgraded_as ∙ is),
      λ is. upgraded_as ∙ both_alike check_text upgraded_text line (told file) (told certificate) (sym checked_as ∙ is),
    )
