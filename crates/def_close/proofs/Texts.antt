-- The text of two plans is accepted against the file of their game, and what its bounds say holds.
use Rattle.std.proofs.Common.{◌≡◌, ℕ, List, None, Result, Ok, refl, subst, arith}
use Rattle.def_sums.specs.Limits.{most_root}
use Rattle.def_tree.specs.declared.Kind.TheVariants.{One, Two}
use Rattle.def_file.specs.Content.{GameFile}
use Rattle.def_plan.specs.Weighed.{WeighedGame}
use Rattle.def_sequence_form.proofs.Sets.{form_numbers_as_the_tree}
use Rattle.def_reply.specs.Outcome.{Head}
use Rattle.def_cert_verdict.specs.Certificate.{Certificate}
use Rattle.def_cert_verdict.specs.Ranges.{CertificateFits}
use Rattle.def_cert_verdict.specs.Verdict.{Verdict, bracket, verdict}
use Rattle.def_cert_accepted.specs.OfOutcome.{certificate_of}
use Rattle.def_cert_text.specs.Versions.{VersionedCertificate, VersionedFits, in_version_one}
use Rattle.def_cert_text.specs.declared.fault.CertFault.{CertFault}
use Rattle.def_cert_text.specs.CertText.{versioned_in, versioned_text}
use Rattle.def_cert_text.proofs.TextLaws.{versioned_reading}
use Rattle.def_cert_versions.specs.Verdict.{versioned_verdict}
use Rattle.def_cert_versions.proofs.VersionedVerdict.{old_verdicts}
use Rattle.def_cert_versions.proofs.Upgrades.{upgraded_texts}
use Rattle.def_check.specs.Accepted.{IsAccepted}
use Rattle.def_check.specs.Check.{checked}
use Rattle.def_check.specs.Checking.{Checks}
use Rattle.def_check.proofs.Checked.{checks_are}
use Rattle.def_check.proofs.InNumbers.{faultless_game, sets_in_order}
use Rattle.def_command.specs.GrammarLaws.{InRange}
use Rattle.def_game_numbers.specs.Weighed.{weighed_game}
use Rattle.def_cert_accepted.specs.Bounds.{BoundsHold}
use Rattle.def_program.specs.Checked.{HoldsOfFile}
use Rattle.def_program.specs.Text.{form_of_file, game_head}
use Rattle.def_program.proofs.Checked.{certificates_hold}
use Rattle.def_program.proofs.Played.{head_of_game}
use Rattle.def_program_laws.proofs.CertificatesAreShort.{accepted_short}
use Rattle.def_program_laws.proofs.Heads.{game_tree, head_fits}
use Rattle.def_program_laws.proofs.Solved.{upgrade_is_taken}
use Rattle.def_close.specs.Plans.{ArePlansOf, HasOneLine, IsBracketText, ends_of_plans, one_line, pair_certificate, pair_high, pair_low, pair_text, whole_line}
use Rattle.def_close.proofs.Plans.{plans_accepted, plans_fit}

-- what is read of one text is one certificate
one_reading : (read : Result VersionedCertificate CertFault) (c d : VersionedCertificate) → read ≡ Ok c → read ≡ Ok d
    → c ≡ d
one_reading read c d first second = cc

-- one line at the greatest scale is in range
whole_range : InRange whole_line None
whole_range = record {
  few_rounds = omega arith;
  some_every = omega arith;
  small_every = omega arith;
  some_scale = omega arith;
  small_scale = omega arith;
  some_workers = tt;
  few_workers = tt;
}

module _ (file : List ℕ) (game : GameFile) (one two : List ℕ) (is : IsAccepted file game)
    (plans : ArePlansOf (form_of_file game) most_root one two) where
  abbrev numbers : WeighedGame
  numbers = weighed_game game

  abbrev head : Head
  head = game_head game whole_line

  abbrev certificate : Certificate
  certificate = certificate_of (form_of_file game) (one_line head (ends_of_plans (form_of_file game) one two))

  abbrev shown : Verdict
  shown = bracket (pair_low game one two) (pair_high game one two)

  judged : verdict numbers certificate ≡ Ok shown
  judged = plans_accepted numbers head one two (sets_in_order file game is.readable.stands One refl)
      (sets_in_order file game is.readable.stands Two refl) (head_of_game game whole_line) plans

  fit : CertificateFits certificate
  fit =
      let of_one = form_numbers_as_the_tree game.tree (game_tree file game is) One refl in
      let of_two = form_numbers_as_the_tree game.tree (game_tree file game is) Two refl in
      plans_fit numbers head one two (sets_in_order file game is.readable.stands One refl)
      (sets_in_order file game is.readable.stands Two refl) (λ k set low. (of_one.actions k set low).1)
      (λ k set low. (of_two.actions k set low).1) (head_of_game game whole_line)
      (head_fits file game is whole_line None whole_range) (omega arith) refl plans

  -- the certificate in a text of version 1, of which that of version 2 is the upgrade
  abbrev old : VersionedCertificate
  old = in_version_one certificate

  old_fits : VersionedFits old
  old_fits = record { certificate = fit; second = refl }

  old_judged : versioned_verdict numbers old ≡ Ok shown
  old_judged = (old_verdicts.accepted numbers certificate shown).1 judged

  taken : checked file (pair_text game one two) ≡ Ok shown
  taken = upgrade_is_taken file game is old shown old_fits old_judged

  read_back : versioned_in (pair_text game one two) ≡ Ok (pair_certificate game one two)
  read_back =
      (upgraded_texts game (versioned_text old) old shown (faultless_game file game is)
      ((versioned_reading (versioned_text old) old).1 (old_fits, refl)) old_judged).read

  checks : Checks file (pair_text game one two) (Ok shown)
  checks = (checks_are file (pair_text game one two) is.readable.length_within (Ok shown)).1 taken

  -- of what is accepted the certificate is this one
  holds : HoldsOfFile file (pair_text game one two) (λ c verdict. (verdict ≡ shown) × HasOneLine c) BoundsHold
  holds =
      let found = certificates_hold file (pair_text game one two) shown checks in
      let same : pair_certificate game one two ≡ found.certificate =
      one_reading (versioned_in (pair_text game one two)) (pair_certificate game one two) found.certificate read_back
      ((versioned_reading (pair_text game one two) found.certificate).1 (found.read.text.fits, found.read.text.text)) in
      record {
        game = found.game;
        certificate = found.certificate;
        read = found.read;
        head = found.head;
        second = found.second;
        verdict = (found.verdict, subst HasOneLine same (record { version = refl; rounds = refl; every = refl; scale = refl }));
        bounds = found.bounds;
      }

  -- a check of the file accepts it, and what its bounds say holds
  pub texts_hold : IsBracketText file (pair_text game one two) (pair_low game one two) (pair_high game one two)
  texts_hold = record {
    checks = checks;
    holds = holds;
    short = accepted_short file (pair_text game one two) shown is.readable.length_within taken;
  }
