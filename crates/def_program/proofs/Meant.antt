-- What the words mean is what the program computes of them.
use Rattle.std.proofs.Common.{◌≡◌, ℕ, ◌≤◌, Bool, true, false, cond, nat_lt, length, List, [], Option, Some, None, Result, Ok, Err, refl, sym, ◌∙◌, ap, subst}
use Rattle.std.proofs.Common.{arith}
use Rattle.std.specs.Prelude.{All, IsSome, IsSomeAnd}
use Rattle.std.specs.Option.{option_map}
use Rattle.std.proofs.lemmas.Bool.{ltb-true, ltb-false, lt-ltb, le-ltb}
use Rattle.std.proofs.lemmas.Option.{same_Some}
use Rattle.def_sums.specs.Limits.{least_cards, most_cards}
use Rattle.def_file.specs.declared.FileFault.{FileFault}
use Rattle.def_file.specs.declared.FileFault.TheVariants.{TooLong}
use Rattle.def_file.specs.Content.{GameFile}
use Rattle.def_file.specs.Reading.{most_bytes}
use Rattle.def_command.specs.Grammar.{Batch, Check, Command, Drill, Gen, Info, Plus, Solve, Upgrade, command_of_words, files_of}
use Rattle.def_plus.specs.declared.Variant.TheVariants as variants
use Rattle.def_command.proofs.InRange.{cards_in_range}
use Rattle.def_program.specs.Text.{info_text}
use Rattle.def_program.specs.BatchText.{batch_text}
use Rattle.def_program.specs.TextLines.{fault_line}
use Rattle.def_program.specs.CheckLines.{cert_long_line, check_text, upgraded_text}
use Rattle.def_check.specs.Accepting.{read_as_accepted}
use Rattle.def_check.proofs.FileAccepted.{accepted_whole_file, first_refused}
use Rattle.def_canon.specs.Canon.{canon}
use Rattle.def_canon.specs.Poker.{poker}
use Rattle.def_cert_verdict.specs.Verdict.{Verdict}
use Rattle.def_check.specs.Check.{checked, most_cert_bytes}
use Rattle.def_check.proofs.Checked.{checks_are}
use Rattle.def_program.specs.Program.{Answer, answer_of, both_told, certificate_answer, check_answer, check_told, command_answer, file_answer, game_answer}
use Rattle.def_program.specs.Program.{made_answer, program, refusal, played, solved, success, usage}
use Rattle.def_program.specs.Meaning.{BothMean, CertificateMeans, CheckMeans, CommandMeans, FileMeans, IsMeant, Means, file_too_long, file_within, refused}
use Rattle.def_program.specs.Meaning.{too_long, within, written}
use Rattle.def_program.specs.Laws.{MeaningIsComputed, ToldWordsMeanOne}
use Rattle.def_program.proofs.Batches.{are_told as all_are_told, batch_computed, batch_meant}
use Rattle.def_program.proofs.PokerFileIsRead.{made_is}

-- there is an answer
record Computed (answers : Option Answer) : Type 0 where
  answer : Answer
  is : answers ≡ Some answer

-- ---- one file

module _ (text : GameFile → List ℕ) where
  -- an answer that is meant of a file is computed
  pub file_computed : (bytes : List ℕ) (answer : Answer) → FileMeans text bytes answer → file_answer text bytes ≡ answer
  file_computed bytes answer (written game is same) =
      ap (game_answer text) ((accepted_whole_file bytes game).1 is) ∙ sym same
  file_computed bytes answer (refused fault is same) = ap (game_answer text) ((first_refused bytes fault).1 is) ∙ sym same

  -- what is computed of a file is meant
  pub file_meant : (bytes : List ℕ) (r : Result GameFile FileFault) → read_as_accepted bytes ≡ r
      → FileMeans text bytes (game_answer text r)
  file_meant bytes (Ok game) is = written game ((accepted_whole_file bytes game).0 is) refl
  file_meant bytes (Err fault) is = refused fault ((first_refused bytes fault).0 is) refl

  content_computed : (content : Option (List ℕ)) (answer : Answer)
      → IsSomeAnd content (λ bytes. FileMeans text bytes answer)
      → option_map (file_answer text) content ≡ Some answer
  content_computed None answer means = absurd means
  content_computed (Some bytes) answer means = ap Some (file_computed bytes answer means)

  content_meant : (content : Option (List ℕ)) (answer : Answer) → option_map (file_answer text) content ≡ Some answer
      → IsSomeAnd content (λ bytes. FileMeans text bytes answer)
  content_meant None answer computed = absurd cc
  content_meant (Some bytes) answer computed =
      let same : file_answer text bytes ≡ answer = cc in
      subst (λ (a : Answer). FileMeans text bytes a) same (file_meant bytes (read_as_accepted bytes) refl)

-- ---- a check

module _ (text : List ℕ → Verdict → List ℕ) (file : List ℕ) (short : length file ≤ most_bytes) where
  certificate_computed : (bytes : List ℕ) (answer : Answer) → CertificateMeans text file bytes answer
      → certificate_answer text file bytes ≡ answer
  certificate_computed bytes answer (too_long h same) = rw (lt-ltb most_cert_bytes (length bytes) h) (sym same)
  certificate_computed bytes answer (within h found checks same) =
      rw (le-ltb most_cert_bytes (length bytes) h)
      (ap (check_answer (text bytes)) ((checks_are file bytes short found).0 checks) ∙ sym same)

  certificate_meant : (bytes : List ℕ) (answer : Answer) → certificate_answer text file bytes ≡ answer
      → CertificateMeans text file bytes answer
  certificate_meant bytes answer computed = by_length (nat_lt most_cert_bytes (length bytes)) refl computed
    where
      by_length : (b : Bool) → nat_lt most_cert_bytes (length bytes) ≡ b
          → cond b (refusal cert_long_line) (check_answer (text bytes) (checked file bytes)) ≡ answer
          → CertificateMeans text file bytes answer
      by_length true is computed = too_long (ltb-true most_cert_bytes (length bytes) is) (sym computed)
      by_length false is computed =
          within (ltb-false most_cert_bytes (length bytes) is) (checked file bytes)
          ((checks_are file bytes short (checked file bytes)).1 refl) (sym computed)

  content_checked : (certificate : Option (List ℕ)) (answer : Answer)
      → IsSomeAnd certificate (λ bytes. CertificateMeans text file bytes answer)
      → option_map (certificate_answer text file) certificate ≡ Some answer
  content_checked None answer means = absurd means
  content_checked (Some bytes) answer means = ap Some (certificate_computed bytes answer means)

  content_means : (certificate : Option (List ℕ)) (answer : Answer)
      → option_map (certificate_answer text file) certificate ≡ Some answer
      → IsSomeAnd certificate (λ bytes. CertificateMeans text file bytes answer)
  content_means None answer computed = absurd cc
  content_means (Some bytes) answer computed = certificate_meant bytes answer (cc)

module _ (text : List ℕ → Verdict → List ℕ) (file : List ℕ) where
  -- an answer that is meant of a check is computed
  pub check_computed : (certificate : Option (List ℕ)) (answer : Answer) → CheckMeans text file certificate answer
      → check_told text file certificate ≡ Some answer
  check_computed certificate answer (file_too_long h same) =
      rw (lt-ltb most_bytes (length file) h) (ap Some (sym same))
  check_computed certificate answer (file_within h means) =
      rw (le-ltb most_bytes (length file) h) (content_checked text file h certificate answer means)

  -- what is computed of a check is meant
  check_meant : (certificate : Option (List ℕ)) (answer : Answer) → check_told text file certificate ≡ Some answer
      → CheckMeans text file certificate answer
  check_meant certificate answer computed = by_length (nat_lt most_bytes (length file)) refl computed
    where
      by_length : (b : Bool) → nat_lt most_bytes (length file) ≡ b
          → cond b (Some (refusal (fault_line TooLong))) (option_map (certificate_answer text file) certificate)
          ≡ Some answer
          → CheckMeans text file certificate answer
      by_length true is computed = file_too_long (ltb-true most_bytes (length file) is) cc
      by_length false is computed =
          let h = ltb-false most_bytes (length file) is in
          file_within h (content_means text file h certificate answer computed)

  check_answered : (certificate : Option (List ℕ)) → IsSome certificate → Computed (check_told text file certificate)
  check_answered None is_told = absurd cc
  check_answered (Some bytes) is_told = by_length (nat_lt most_bytes (length file))
    where
      by_length : (b : Bool)
          → Computed (cond b (Some (refusal (fault_line TooLong))) (option_map (certificate_answer text file) (Some bytes)))
      by_length true = record { answer = refusal (fault_line TooLong); is = refl }
      by_length false = record { answer = certificate_answer text file bytes; is = refl }

module _ (text : List ℕ → Verdict → List ℕ) (certificate : Option (List ℕ)) where
  both_computed : (file : Option (List ℕ)) (answer : Answer)
      → BothMean text file certificate answer → both_told text file certificate ≡ Some answer
  both_computed None answer means = absurd means
  both_computed (Some bytes) answer means = check_computed text bytes certificate answer means

  both_meant : (file : Option (List ℕ)) (answer : Answer)
      → both_told text file certificate ≡ Some answer → BothMean text file certificate answer
  both_meant None answer computed = absurd cc
  both_meant (Some bytes) answer computed = check_meant text bytes certificate answer computed

  both_answered : (file : Option (List ℕ)) → IsSome file → IsSome certificate
      → Computed (both_told text file certificate)
  both_answered None is_told other = absurd cc
  both_answered (Some bytes) is_told other = check_answered text bytes certificate other

-- ---- a game that is made

module _ (text : GameFile → List ℕ) (cards : ℕ) (some : least_cards ≤ cards) (few : cards ≤ most_cards) where
  -- an answer that is meant of its file is computed
  pub made_computed : (answer : Answer) → FileMeans text (canon (poker cards)) answer
      → answer ≡ made_answer text (poker cards)
  made_computed answer means =
      sym (file_computed text (canon (poker cards)) answer means) ∙ made_is cards some few text

  -- what is computed of it is meant of its file
  made_meant : (answer : Answer) → made_answer text (poker cards) ≡ answer → FileMeans text (canon (poker cards)) answer
  made_meant answer computed =
      subst (λ (a : Answer). FileMeans text (canon (poker cards)) a) (made_is cards some few text ∙ computed)
      (file_meant text (canon (poker cards)) (read_as_accepted (canon (poker cards))) refl)

-- ---- commands

module _ (words : List (List ℕ)) (told : List ℕ → Option (List ℕ)) (answer : Answer) where
  command_computed : (command : Command) → command_of_words words ≡ Some command → CommandMeans command told answer
      → command_answer command told ≡ Some answer
  command_computed (Solve file settings rows) is means =
      content_computed (solved settings) (told file) answer means
  command_computed (Info file) is means = content_computed info_text (told file) answer means
  command_computed (Check file certificate) is means =
      both_computed check_text (told certificate) (told file) answer means
  command_computed (Upgrade file certificate) is means =
      both_computed upgraded_text (told certificate) (told file) answer means
  command_computed (Gen cards) is means = ap Some (sym means)
  command_computed (Drill cards settings rows) is means =
      let range = cards_in_range.of_drill words cards settings rows is in
      ap Some (sym (made_computed (solved settings) cards range.some range.few answer means))
  command_computed (Plus file settings rows) is means =
      content_computed (played variants.Plus settings) (told file) answer means
  command_computed (Batch files settings workers) is means = batch_computed settings told files answer means

  command_meant : (command : Command) → command_of_words words ≡ Some command
      → command_answer command told ≡ Some answer → CommandMeans command told answer
  command_meant (Solve file settings rows) is computed =
      content_meant (solved settings) (told file) answer computed
  command_meant (Info file) is computed = content_meant info_text (told file) answer computed
  command_meant (Check file certificate) is computed =
      both_meant check_text (told certificate) (told file) answer computed
  command_meant (Upgrade file certificate) is computed =
      both_meant upgraded_text (told certificate) (told file) answer computed
  command_meant (Gen cards) is computed = cc
  command_meant (Drill cards settings rows) is computed =
      let range = cards_in_range.of_drill words cards settings rows is in
      made_meant (solved settings) cards range.some range.few answer
      (same_Some (made_answer (solved settings) (poker cards)) answer computed)
  command_meant (Plus file settings rows) is computed =
      content_meant (played variants.Plus settings) (told file) answer computed
  command_meant (Batch files settings workers) is computed = batch_meant settings told files answer computed

  by_command : (command : Option Command) → command_of_words words ≡ command
      → (IsMeant command told answer → answer_of command told ≡ Some answer)
      × (answer_of command told ≡ Some answer → IsMeant command told answer)
  by_command None is = (λ means. ap Some (sym means), λ computed. cc)
  by_command (Some command) is = (command_computed command is, command_meant command is)

-- what words mean in the format's terms is what the program computes
pub meaning_computed : MeaningIsComputed
meaning_computed words told answer = by_command words told answer (command_of_words words) refl

-- ---- one answer

content_answered : (text : GameFile → List ℕ) (content : Option (List ℕ)) → IsSome content
    → Computed (option_map (file_answer text) content)
content_answered text None is_told = absurd cc
content_answered text (Some bytes) is_told = record { answer = file_answer text bytes; is = refl }

told_computed : (command : Option Command) (told : List ℕ → Option (List ℕ))
    → All (λ file. IsSome (told file)) (files_of command) → Computed (answer_of command told)
told_computed None told are_told = record { answer = usage; is = refl }
told_computed (Some (Solve file settings rows)) told are_told =
    content_answered (solved settings) (told file) (are_told 0 [] (omega arith))
told_computed (Some (Check file certificate)) told are_told =
    both_answered check_text (told certificate) (told file) (are_told 0 [] (omega arith)) (are_told 1 [] (omega arith))
told_computed (Some (Upgrade file certificate)) told are_told =
    both_answered upgraded_text (told certificate) (told file) (are_told 0 [] (omega arith)) (are_told 1 [] (omega arith))
told_computed (Some (Gen cards)) told are_told = record { answer = success (canon (poker cards)); is = refl }
told_computed (Some (Drill cards settings rows)) told are_told =
    record { answer = made_answer (solved settings) (poker cards); is = refl }
told_computed (Some (Plus file settings rows)) told are_told =
    content_answered (played variants.Plus settings) (told file) (are_told 0 [] (omega arith))
told_computed (Some (Batch files settings workers)) told are_told =
    let all = all_are_told told files are_told in
    record {
      answer = success (batch_text settings all.files);
      is = ap (option_map (λ contents. success (batch_text settings contents))) all.all;
    }
told_computed (Some (Info file)) told are_told = content_answered info_text (told file) (are_told 0 [] (omega arith))

-- words whose files are told mean one answer, and no other one
pub told_means_one : ToldWordsMeanOne
told_means_one words told are_told = record {
  answer = found.answer;
  meant = (meaning_computed words told found.answer).1 found.is;
  only = only;
}
  where
    found : Computed (program words told)
    found = told_computed (command_of_words words) told are_told

    only : (other : Answer) → Means words told other → other ≡ found.answer
    only other means = same_Some other found.answer (sym ((meaning_computed words told other).0 means) ∙ found.is)
