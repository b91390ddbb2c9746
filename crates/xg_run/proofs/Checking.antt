-- How a check ends, by what was read of both files.
use Rattle.std.proofs.Common.{◌≡◌, ℕ, ◌<◌, ◌≤◌, length, List, Option, Some, None, Ok, Err, refl, sym, ◌∙◌, ap, subst, inl, inr}
use Rattle.std.specs.Prelude.{IfSome, string_bytes}
use Rattle.std.proofs.lemmas.Bool.{lt-ltb, le-ltb}
use Rattle.std.proofs.lemmas.Option.{same_Some}
use Rattle.def_outside.specs.Calls.{FilesCall, SinkCall, HasNoFault, IsUntouched}
use Rattle.def_outside.specs.Cause.{next_count}
use Rattle.def_file.specs.declared.FileFault.TheVariants.{TooLong}
use Rattle.def_file.specs.Reading.{most_bytes}
use Rattle.def_cert_verdict.specs.declared.fault.TestFault.TheVariants as test
use Rattle.def_cert_verdict.specs.Verdict.{Verdict}
use Rattle.def_check.specs.Check.{Refusal, checked, most_cert_bytes, of_certificate, of_file, of_tests}
use Rattle.def_check.proofs.Checked.{checked_any_length}
use Rattle.def_program.specs.TextLines.{fault_line}
use Rattle.def_program.specs.CheckLines.{cert_long_line, refusal_line}
use Rattle.def_program.specs.Program.{Answer, certificate_answer, check_answer, check_told, refusal}
use Rattle.def_program.specs.Meaning.{BothMean, MeansOnly}
use Rattle.def_program.specs.Lines as lines
use Rattle.def_program.specs.Lines.{IsLine}
use Rattle.def_program.proofs.Meant.{check_computed}
use Rattle.xg_check.specs.Answers.{AnswersVerdict}
use Rattle.xg_check.specs.declared.verdict.CheckFault.{CheckFault}
use Rattle.xg_check.specs.declared.verdict.CheckFault.TheVariants.{File, Cert, HeadDiffers, NotAPlan, ValueTooGood, ReplyNotTight, TotalDiffers, TraceWidens}
use Rattle.xg_check.specs.declared.verdict.CheckFault.TheVariants.{SecondDiffers}
use Rattle.xg_check.specs.declared.verdict.CheckFault.TheVariants as faults
use Rattle.xg_load.specs.declared.ending.Ending.{Ending}
use Rattle.xg_load.specs.declared.ending.Ending.TheVariants.{Done, Refused, ReadFault, WriteFault, NoMemory}
use Rattle.xg_load.specs.Endings.{IsLineIfRoom}
use Rattle.xg_run.specs.declared.both.Both.{Both}
use Rattle.xg_run.specs.BothRead.{ReadsBoth}
use Rattle.xg_run.specs.ChecksEnd.{EndsCheck}
use Rattle.xg_run.specs.RefusalLine.{IsCheckLine}
use Rattle.xg_run.specs.Concludes.{Concludes}

-- ---- the line of a fault

-- a fault that was found, with its line
pub record TellsRefusal (file certificate line : List ℕ) : Type 0 where
  pub why : Refusal
  pub is_refused : checked file certificate ≡ Err why
  pub line_is : line ≡ refusal_line why

pub says : (file certificate line : List ℕ) (fault : CheckFault) → AnswersVerdict (Err fault) (checked file certificate)
    → IsCheckLine fault line → TellsRefusal file certificate line
says file certificate line (File fault) is same = record { why = of_file fault; is_refused = is; line_is = same }
says file certificate line (Cert fault) is same = record { why = of_certificate fault; is_refused = is; line_is = same }
says file certificate line (HeadDiffers k) is same =
    record { why = of_tests (test.HeadDiffers k); is_refused = is; line_is = same }
says file certificate line (NotAPlan player set) is same =
    record { why = of_tests (test.NotAPlan player set); is_refused = is; line_is = same }
says file certificate line (ValueTooGood player set action) is same =
    record { why = of_tests (test.ValueTooGood player set action); is_refused = is; line_is = same }
says file certificate line (ReplyNotTight player set) is same =
    record { why = of_tests (test.ReplyNotTight player set); is_refused = is; line_is = same }
says file certificate line (TotalDiffers end) is same =
    record { why = of_tests (test.TotalDiffers end); is_refused = is; line_is = same }
says file certificate line (TraceWidens k) is same =
    record { why = of_tests (test.TraceWidens k); is_refused = is; line_is = same }
says file certificate line SecondDiffers is same =
    record { why = of_tests test.SecondDiffers; is_refused = is; line_is = same }
says file certificate line faults.NoMemory is same = absurd same

-- ---- what is meant

module _ (text : List ℕ → Verdict → List ℕ) where
  module _ (f : List ℕ) where
    too_long_told : (certificate : Option (List ℕ)) → most_bytes < length f
        → check_told text f certificate ≡ Some (refusal (fault_line TooLong))
    too_long_told certificate h = rw (lt-ltb most_bytes (length f) h) refl

    module _ (short : length f ≤ most_bytes) (c : List ℕ) where
      within_told : check_told text f (Some c) ≡ Some (certificate_answer text f c)
      within_told = rw (le-ltb most_bytes (length f) short) refl

      long_told : most_cert_bytes < length c → check_told text f (Some c) ≡ Some (refusal cert_long_line)
      long_told h = within_told ∙ (rw (lt-ltb most_cert_bytes (length c) h) refl)

      checked_told : length c ≤ most_cert_bytes
          → check_told text f (Some c) ≡ Some (check_answer (text c) (checked f c))
      checked_told h = within_told ∙ (rw (le-ltb most_cert_bytes (length c) h) refl)

  -- what is computed is what is meant
  module _ (f : List ℕ) (certificate : Option (List ℕ)) (answer : Answer) where
    only_told : check_told text f certificate ≡ Some answer → MeansOnly (BothMean text (Some f) certificate) answer
    only_told is other means = same_Some other answer (sym (check_computed text f certificate other means) ∙ is)

  -- a check of contents that aren't told means nothing
  nothing_told : (certificate : Option (List ℕ)) (answer : Answer) → MeansOnly (BothMean text None certificate) answer
  nothing_told certificate answer other means = absurd means

  no_certificate : (f : List ℕ) (answer : Answer) → length f ≤ most_bytes
      → MeansOnly (BothMean text (Some f) None) answer
  no_certificate f answer short other means =
      absurd (none_is (sym (check_computed text f None other means) ∙ (rw (le-ltb most_bytes (length f) short) refl)))
    where
      none_is : ◌≡◌ {A = Option Answer} (Some other) None → ⊥
      none_is is = cc

  module _ (f c : List ℕ) (short_f : length f ≤ most_bytes) (short_c : length c ≤ most_cert_bytes) where
    abbrev found : Answer
    found = check_answer (text c) (checked f c)

    -- of what was read only what is computed is meant
    only_checked : (file certificate : Option (List ℕ)) → IfSome file (λ bytes. f ≡ bytes)
        → IfSome certificate (λ bytes. c ≡ bytes) → MeansOnly (BothMean text file certificate) found
    only_checked None certificate is_f is_c = nothing_told certificate found
    only_checked (Some bytes) None is_f is_c =
        no_certificate bytes found (subst (λ (b : List ℕ). length b ≤ most_bytes) is_f short_f)
    only_checked (Some bytes) (Some others) is_f is_c =
        subst (λ (b : List ℕ). MeansOnly (BothMean text (Some b) (Some others)) found) is_f
        (subst (λ (b : List ℕ). MeansOnly (BothMean text (Some f) (Some b)) found) is_c
        (only_told f (Some c) found (checked_told f short_f c short_c)))

-- ---- how it ends

line_fits : (file certificate : List ℕ) (taken : ℕ) (why : Refusal) → checked file certificate ≡ Err why
    → (line : List ℕ)
    → line ≡ refusal_line why → IsLine (Unit {0}) taken 1 line
line_fits file certificate taken (of_file fault) is line same =
    lines.of_file fault refl same
    (λ long. absurd (checked_any_length file certificate (is ∙ ap (λ x. Err (of_file x)) long)))
line_fits file certificate taken (of_certificate fault) is line same = lines.of_certificate tt fault refl same
line_fits file certificate taken (of_tests fault) is line same = lines.of_tests tt fault refl same

module _ (text : Verdict → List ℕ) (meant : Answer → Type 0) (files : FilesCall) (out : SinkCall) (f c : List ℕ)
    (only : MeansOnly meant (check_answer text (checked f c))) (read : HasNoFault files.faults) where
  -- both were read, and the bytes were checked
  pub bytes_checked : (ending : Ending) → EndsCheck text f c out ending → Concludes (Unit {0}) meant files out ending
  bytes_checked Done is = record {
    text = text is.shown;
    means = λ answer means. only answer means ∙ ap (check_answer text) is.is_shown;
    read = read;
    written = is.no_fault;
    wrote = is.wrote;
  }
  bytes_checked WriteFault is = record {
    text = text is.shown;
    means = λ answer means. only answer means ∙ ap (check_answer text) is.is_shown;
    read = read;
    cause = is.cause;
    front = is.front;
  }
  bytes_checked (Refused line) is = record {
    means = λ answer means. only answer means ∙ ap (check_answer text) is.is_refused ∙ ap refusal (sym is.line_is);
    fits = line_fits f c files.taken is.why is.is_refused (string_bytes line) is.line_is;
    read = read;
    untouched = is.untouched;
  }
  bytes_checked NoMemory is = is
  bytes_checked ReadFault is = absurd is

-- both were read, as far as they are told
pub both_checked : (text : List ℕ → Verdict → List ℕ) (file certificate : Option (List ℕ)) (files : FilesCall)
    (out : SinkCall) (it : Both) (f c : List ℕ) → f ≡ it.file.items → c ≡ it.certificate.items
    → ReadsBoth file certificate files (Ok it) → (ending : Ending) → EndsCheck (text c) f c out ending
    → Concludes (Unit {0}) (BothMean text file certificate) files out ending
both_checked text file certificate files out it f c same_f same_c (has, read) ending ends =
    bytes_checked (text it.certificate.items) (BothMean text file certificate) files out it.file.items
    it.certificate.items
    (only_checked text it.file.items it.certificate.items has.small_file has.small_certificate file certificate has.file_is has.certificate_is)
    read ending
    (subst (λ (b : List ℕ). EndsCheck (text it.certificate.items) b it.certificate.items out ending) same_f
    (subst (λ (b : List ℕ). EndsCheck (text b) f b out ending) same_c ends))

module _ (text : List ℕ → Verdict → List ℕ) (file certificate : Option (List ℕ)) (files : FilesCall) (out : SinkCall)
    (untouched : IsUntouched out) where
  abbrev meant : Answer → Type 0
  meant = BothMean text file certificate

  long_file : IfSome file (λ bytes. most_bytes < length bytes) → MeansOnly meant (refusal (fault_line TooLong))
  long_file told = by_content file told
    where
      by_content : (content : Option (List ℕ)) → IfSome content (λ bytes. most_bytes < length bytes)
          → MeansOnly (BothMean text content certificate) (refusal (fault_line TooLong))
      by_content None told = nothing_told text certificate (refusal (fault_line TooLong))
      by_content (Some bytes) told =
          only_told text bytes certificate (refusal (fault_line TooLong)) (too_long_told text bytes certificate told)

  long_certificate : IfSome file (λ bytes. length bytes ≤ most_bytes)
      → IfSome certificate (λ bytes. most_cert_bytes < length bytes) → MeansOnly meant (refusal cert_long_line)
  long_certificate short told = by_content file certificate short told
    where
      by_content : (f c : Option (List ℕ)) → IfSome f (λ bytes. length bytes ≤ most_bytes)
          → IfSome c (λ bytes. most_cert_bytes < length bytes)
          → MeansOnly (BothMean text f c) (refusal cert_long_line)
      by_content None c short told = nothing_told text c (refusal cert_long_line)
      by_content (Some bytes) None short told = no_certificate text bytes (refusal cert_long_line) short
      by_content (Some bytes) (Some others) short told =
          only_told text bytes (Some others) (refusal cert_long_line) (long_told text bytes short others told)

  -- one of both wasn't read
  pub not_both : (ending : Ending) → ReadsBoth file certificate files (Err ending)
      → Concludes (Unit {0}) meant files out ending
  not_both (Refused line) (inl is, read) = record {
    means = λ answer means. long_file is.long answer means ∙ ap refusal (sym is.line_is);
    fits = lines.of_file TooLong refl is.line_is (λ _. is.taken);
    read = read;
    untouched = untouched;
  }
  not_both (Refused line) (inr is, read) = record {
    means = λ answer means. long_certificate is.short is.long answer means ∙ ap refusal (sym is.line_is);
    fits = lines.of_long_certificate tt refl is.line_is is.taken;
    read = read;
    untouched = untouched;
  }
  not_both ReadFault cause = record { cause = cause; untouched = untouched }
  not_both NoMemory read = untouched
  not_both Done is = absurd is
  not_both WriteFault is = absurd is

-- ---- reading both

-- a file that is too long ends the run before the certificate is opened
pub file_too_long : (file certificate : Option (List ℕ)) (files : FilesCall) (ending : Ending)
    → IsLineIfRoom (fault_line TooLong) ending → IfSome file (λ bytes. most_bytes < length bytes)
    → most_bytes < files.taken → files.opens_now ≡ next_count files.opens_before → HasNoFault files.faults
    → ReadsBoth file certificate files (Err ending)
file_too_long file certificate files (Refused line) is long taken alone read =
    (inl (record { line_is = is; long = long; taken = taken; alone = alone }), read)
file_too_long file certificate files NoMemory is long taken alone read = read
file_too_long file certificate files Done is long taken alone read = absurd is
file_too_long file certificate files ReadFault is long taken alone read = absurd is
file_too_long file certificate files WriteFault is long taken alone read = absurd is

pub certificate_too_long : (file certificate : Option (List ℕ)) (files : FilesCall) (ending : Ending)
    → IsLineIfRoom cert_long_line ending → IfSome file (λ bytes. length bytes ≤ most_bytes)
    → IfSome certificate (λ bytes. most_cert_bytes < length bytes) → most_cert_bytes < files.taken
    → HasNoFault files.faults → ReadsBoth file certificate files (Err ending)
certificate_too_long file certificate files (Refused line) is short long taken read =
    (inr (record { line_is = is; short = short; long = long; taken = taken }), read)
certificate_too_long file certificate files NoMemory is short long taken read = read
certificate_too_long file certificate files Done is short long taken read = absurd is
certificate_too_long file certificate files ReadFault is short long taken read = absurd is
certificate_too_long file certificate files WriteFault is short long taken read = absurd is
