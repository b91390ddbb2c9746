-- What an accepted certificate prints holds of the file's game.
use Rattle.std.proofs.Common.{◌≡◌, ℕ, zero, suc, ◌+◌, ◌-◌, ◌≤◌, ◌<◌, Bool, true, false, nat_lt, length, List, Option, Some, None, Result, Ok, Err, refl, sym}
use Rattle.std.proofs.Common.{◌∙◌, ap, subst, arith}
use Rattle.std.specs.Prelude.{IfSome, slice_index_or}
use Rattle.std.proofs.lemmas.Bool.{ltb-true, ltb-false}
use Rattle.def_outside.specs.Calls.{SinkCall, Wrote}
use Rattle.def_tree.specs.declared.Kind.TheVariants.{One, Two}
use Rattle.def_file.specs.declared.FileFault.TheVariants.{TooLong}
use Rattle.def_file.specs.Content.{GameFile}
use Rattle.def_file.specs.Reading.{most_bytes}
use Rattle.def_sums.proofs.RingLaws.{≤ℤ_refl}
use Rattle.def_reply.specs.Bracket.{LiesWithin}
use Rattle.def_reply.specs.declared.TraceLine.{TraceLine}
use Rattle.def_reply.specs.Outcome.{Head}
use Rattle.def_reply.proofs.Compares.{at_most-trans}
use Rattle.def_cert_verdict.specs.Ranges.{CertificateFits, TraceFits}
use Rattle.def_cert_verdict.specs.declared.fault.TestFault.{TestFault}
use Rattle.def_cert_verdict.specs.Certificate.{Certificate, PrintedBounds}
use Rattle.def_plan.specs.Weighed.{WeighedGame}
use Rattle.def_cert_verdict.specs.Verdict.{Verdict, decided_by, first_failing, shown_by, tests, verdict}
use Rattle.def_cert_verdict.specs.Laws.{IsHeadOf, NeverWidens}
use Rattle.def_cert_verdict.proofs.VerdictIsExact.{exact}
use Rattle.def_cert_verdict.proofs.Shown.{accepted as shown}
use Rattle.def_cert_text.specs.Versions.{VersionedCertificate}
use Rattle.def_cert_text.specs.CertText.{versioned_text}
use Rattle.def_cert_text.proofs.TextLaws.{versioned_reading}
use Rattle.def_cert_versions.specs.Verdict.{upgraded}
use Rattle.def_cert_versions.proofs.VersionedVerdict.{accept_alike}
use Rattle.def_check.specs.Check.{Refusal, checked, most_cert_bytes}
use Rattle.def_check.specs.Checking.{AreRead, Checks, IsTextOf, failed, passed, refused, unreadable}
use Rattle.def_check.proofs.Checked.{checks_are}
use Rattle.def_game_numbers.specs.Weighed.{weighed_game}
use Rattle.def_check.proofs.InNumbers.{sets_in_order, some_unit}
use Rattle.def_plus.specs.declared.Variant.{Variant}
use Rattle.def_plus.specs.declared.Variant.TheVariants.{Plain}
use Rattle.def_command.specs.Grammar.{Batch, Check, Command, Drill, Gen, Info, Plus, Solve, Upgrade, command_of_words}
use Rattle.def_program.specs.TextLines.{fault_line}
use Rattle.def_program.specs.CheckLines.{cert_long_line, check_text, upgrade_text, upgraded_text, verdict_text}
use Rattle.def_program.specs.Program.{Answer, check_answer, refusal}
use Rattle.def_program.specs.Meaning.{BothMean, CheckMeans, IsMeant, Means, file_too_long, file_within, too_long, within}
use Rattle.def_cert_accepted.specs.Bounds.{BoundsHold}
use Rattle.def_program.specs.Checked.{AreChecked, ForEachChecked, HoldsOfFile, checked_text}
use Rattle.def_program.specs.Laws.{AcceptedCertificatesHold, UpgradesAreWritten}
use Rattle.def_cert_accepted.proofs.Bounds.{bounds_hold}

-- ---- the trace

-- what lies within a line that lies within an earlier one lies within that
lies_within : (later line earlier : TraceLine) → 1 ≤ line.low_round → 1 ≤ line.high_round → LiesWithin later line
    → LiesWithin line earlier → LiesWithin later earlier
lies_within later line earlier some_low some_high of_later of_line = record {
  not_lower = at_most-trans earlier.low line.low later.low earlier.low_round line.low_round later.low_round some_low
      of_line.not_lower of_later.not_lower;
  not_higher = at_most-trans later.high line.high earlier.high later.high_round line.high_round earlier.high_round
      some_high of_later.not_higher of_line.not_higher;
}

module _ (head : Head) (lines : List TraceLine) (fits : TraceFits head lines) (narrows : NeverWidens lines) where
  after_some : (more j : ℕ) (line : TraceLine) → more + j < length lines
      → LiesWithin (slice_index_or lines (more + j) line) (slice_index_or lines j line)
  after_some zero j line low =
      let same : j ≡ zero + j = omega arith in
      subst (λ n. LiesWithin (slice_index_or lines n line) (slice_index_or lines j line)) same
      (record { not_lower = ≤ℤ_refl _; not_higher = ≤ℤ_refl _ })
  after_some (suc more) j line low =
      let middle : TraceLine = slice_index_or lines (more + j) line in
      let next : (more + j) + 1 ≡ suc more + j = omega arith in
      let is = fits.each (more + j) line (omega arith) in
      lies_within (slice_index_or lines (suc more + j) line) middle (slice_index_or lines j line) is.low_round.0
      is.high_round.0
      (subst (λ n. LiesWithin (slice_index_or lines n line) middle) next (narrows (more + j) line (omega arith)))
      (after_some more j line (omega arith))

  -- no line is wider than an earlier one, where none is wider than the one before it
  within_earlier : (j k : ℕ) (line : TraceLine) → j ≤ k → k < length lines
      → LiesWithin (slice_index_or lines k line) (slice_index_or lines j line)
  within_earlier j k line le low =
      let apart : (k - j) + j ≡ k = omega arith in
      subst (λ n. LiesWithin (slice_index_or lines n line) (slice_index_or lines j line)) apart
      (after_some (k - j) j line (omega arith))

-- ---- the certificate

-- the verdict on an accepted certificate has its bounds
verdict_is : (game : WeighedGame) (c : Certificate) (found : Verdict) → verdict game c ≡ Ok found
    → shown_by c.bounds ≡ found
verdict_is game c found is = by_first (first_failing (tests game c)) is
  where
    by_first : (o : Option TestFault) → decided_by c.bounds o ≡ Ok found → shown_by c.bounds ≡ found
    by_first None is = cc
    by_first (Some fault) is = absurd cc

module _ (file bytes : List ℕ) (game : GameFile) (c : VersionedCertificate) (read : AreRead file bytes game c) where
  abbrev numbers : WeighedGame
  numbers = weighed_game game

  of_certificate : (head : Head) (bounds : Option PrintedBounds)
      → CertificateFits (record { head = head; bounds = bounds })
      → verdict numbers (record { head = head; bounds = bounds }) ≡ Ok (shown_by bounds)
      → IsHeadOf numbers head × IfSome bounds (BoundsHold numbers Plain head.scale)
  of_certificate head None fits is = ((exact.head_alone numbers head).0 is, tt)
  of_certificate head (Some b) fits is =
      let stands = read.accepted.readable.stands in
      let one = sets_in_order file game stands One refl in
      let two = sets_in_order file game stands Two refl in
      let conditions = (exact.with_bracket numbers head b b.low b.high).0 is in
      let all = (shown numbers head b b.low b.high one two (some_unit file game stands) is).2 in (
        conditions.0,
        bounds_hold (λ round. round) numbers b all Plain head.scale (record {
          within_earlier = within_earlier head b.trace fits.below.trace all.trace;
          last_low = sym all.traced_low;
          last_high = sym all.traced_high;
          low_round = conditions.1.plan_one.root_is;
          high_round = conditions.1.plan_two.root_is;
        }),
      )

-- what an accepted certificate prints holds
pub certificates_hold : AcceptedCertificatesHold
certificates_hold file bytes shown (refused fault first same) = absurd cc
certificates_hold file bytes shown (unreadable game is fault first same) = absurd cc
certificates_hold file bytes shown (failed game c read fault fails same) = absurd cc
certificates_hold file bytes shown (passed game c read found passes same) =
    let parts = (accept_alike (weighed_game game) c found).0 passes in
    let is : shown_by c.certificate.bounds ≡ found = verdict_is (weighed_game game) c.certificate found parts.0 in
    let told : found ≡ shown = cc in
    let both = of_certificate file bytes game c read c.certificate.head c.certificate.bounds read.text.fits.certificate
    (parts.0 ∙ ap Ok (sym is)) in
    record {
      game = game;
      certificate = c;
      read = read;
      head = both.0;
      second = parts.1;
      verdict = is ∙ told;
      bounds = both.1;
    }

-- the text of the upgrade of what the bytes say
pub upgraded_is : UpgradesAreWritten
upgraded_is bytes c verdict is = ap upgrade_text ((versioned_reading bytes c).1 (is.fits, is.text))

-- ---- where the answer that is meant was written
one_zero : ◌≡◌ {A = ℕ} 1 0 → ⊥
one_zero is = cc

module _ (words : List (List ℕ)) (told : List ℕ → Option (List ℕ)) (out : SinkCall)
    (Holds : WeighedGame → Variant → ℕ → PrintedBounds → Type 0)
    (holds : (game : WeighedGame) (variant : Variant) (scale : ℕ) (b : PrintedBounds) → BoundsHold game variant scale b
    → Holds game variant scale b) where
  abbrev IsWritten : Answer → Type 0
  IsWritten answer = (answer.status ≡ 0) × Wrote out answer.text

  some_hold : (game : WeighedGame) (scale : ℕ) (o : Option PrintedBounds) → IfSome o (BoundsHold game Plain scale)
      → IfSome o (Holds game Plain scale)
  some_hold game scale None all = tt
  some_hold game scale (Some b) all = holds game Plain scale b all

  -- a text of bytes that are accepted, which is the same in the words of the certificate that they say
  module _ (text : List ℕ → Verdict → List ℕ) (said : VersionedCertificate → Verdict → List ℕ)
      (is_said : (bytes : List ℕ) (c : VersionedCertificate) (shown : Verdict) → IsTextOf bytes c
      → text bytes shown ≡ said c shown) where
    abbrev IsShown : List ℕ → List ℕ → Type 0
    IsShown file bytes = HoldsOfFile file bytes (λ c verdict. Wrote out (said c verdict)) Holds

    by_verdict : (file bytes : List ℕ) (found : Result Verdict Refusal) → Checks file bytes found
        → IsWritten (check_answer (text bytes) found) → IsShown file bytes
    by_verdict file bytes (Err why) checks wrote = absurd (one_zero wrote.0)
    by_verdict file bytes (Ok shown) checks wrote =
        let it = certificates_hold file bytes shown checks in
        record {
          game = it.game;
          certificate = it.certificate;
          read = it.read;
          head = it.head;
          second = it.second;
          verdict = subst (Wrote out) (ap (text bytes) (sym it.verdict)
              ∙ is_said bytes it.certificate (shown_by it.certificate.certificate.bounds) it.read.text) wrote.1;
          bounds = some_hold (weighed_game it.game) it.certificate.certificate.head.scale it.certificate.certificate.bounds
              it.bounds;
        }

    by_bytes : (file bytes : List ℕ) → ((answer : Answer) → CheckMeans text file (Some bytes) answer → IsWritten answer)
        → IsShown file bytes
    by_bytes file bytes whole =
        by_length (nat_lt most_bytes (length file)) (nat_lt most_cert_bytes (length bytes)) refl refl
      where
        by_length : (long longer : Bool) → nat_lt most_bytes (length file) ≡ long
            → nat_lt most_cert_bytes (length bytes) ≡ longer → IsShown file bytes
        by_length true longer is other = absurd (one_zero
            (whole (refusal (fault_line TooLong)) (file_too_long (ltb-true most_bytes (length file) is) refl)).0)
        by_length false true is other = absurd (one_zero
            (whole (refusal cert_long_line) (file_within (ltb-false most_bytes (length file) is)
            (too_long (ltb-true most_cert_bytes (length bytes) other) refl))).0)
        by_length false false is other =
            let short = ltb-false most_bytes (length file) is in
            let found = checked file bytes in
            let checks = (checks_are file bytes short found).1 refl in
            by_verdict file bytes found checks (whole (check_answer (text bytes) found)
            (file_within short (within (ltb-false most_cert_bytes (length bytes) other) found checks refl)))

    -- of two files that are told
    by_told : (file bytes : List ℕ) (first second : Option (List ℕ)) → (first ≡ Some file) × (second ≡ Some bytes)
        → ((answer : Answer) → BothMean text first second answer → IsWritten answer) → IsShown file bytes
    by_told file bytes first second are whole =
        by_bytes file bytes (λ answer means. whole answer
        (subst (λ (o : Option (List ℕ)). BothMean text o second answer) (sym are.0)
        (subst (λ (o : Option (List ℕ)). CheckMeans text file o answer) (sym are.1) means)))

  by_command : (command : Option Command) → ((answer : Answer) → IsMeant command told answer → IsWritten answer)
      → (file bytes : List ℕ) → AreChecked command told file bytes
      → HoldsOfFile file bytes (λ c verdict. Wrote out (checked_text command c verdict)) Holds
  by_command (Some (Check name certificate)) whole file bytes are =
      by_told check_text (λ c shown. verdict_text shown) (λ bytes c shown is. refl) file bytes (told name)
      (told certificate) are whole
  by_command (Some (Upgrade name certificate)) whole file bytes are =
      by_told upgraded_text (λ c shown. versioned_text (upgraded c)) upgraded_is file bytes (told name)
      (told certificate) are whole
  by_command (Some (Solve name asked rows)) whole file bytes are = absurd are
  by_command (Some (Info name)) whole file bytes are = absurd are
  by_command (Some (Gen cards)) whole file bytes are = absurd are
  by_command (Some (Drill cards asked rows)) whole file bytes are = absurd are
  by_command (Some (Plus name asked rows)) whole file bytes are = absurd are
  by_command (Some (Batch names asked workers)) whole file bytes are = absurd are
  by_command None whole file bytes are = absurd are

  -- what the command writes of it was written, and its bounds hold
  pub each_checked : ((answer : Answer) → Means words told answer → IsWritten answer)
      → ForEachChecked words told out Holds
  each_checked whole = by_command (command_of_words words) whole
