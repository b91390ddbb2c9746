-- A success is of one game, or of one certificate and one file.
use Rattle.std.proofs.Common.{◌≡◌, ℕ, ◌≤◌, List, ◌++◌, length, Option, Some, None, Result, Ok, Err, refl, sym, ◌∙◌, ap, subst}
use Rattle.std.specs.Prelude.{IsSomeAnd}
use Rattle.std.proofs.lemmas.List.{append-nil}
use Rattle.std.proofs.lemmas.Option.{same_Some}
use Rattle.def_file.specs.declared.FileFault.{FileFault}
use Rattle.def_file.specs.Content.{GameFile}
use Rattle.def_file.specs.Reading.{most_bytes}
use Rattle.def_file_form.specs.Laws.{StandsFor}
use Rattle.def_file_form.proofs.FileReadingIsExact.{game_taken}
use Rattle.def_canon.specs.Canon.{canon}
use Rattle.def_canon.specs.Poker.{poker}
use Rattle.def_canon.proofs.Written.{poker_is_read_back}
use Rattle.def_check.specs.Accepted.{IsAccepted}
use Rattle.def_check.specs.Check.{Refusal}
use Rattle.def_check.specs.Checking.{Checks, IsTextOf}
use Rattle.def_cert_text.specs.Versions.{VersionedCertificate}
use Rattle.def_cert_text.specs.CertText.{versioned_text}
use Rattle.def_cert_versions.specs.Verdict.{upgraded}
use Rattle.def_cert_verdict.specs.Verdict.{Verdict}
use Rattle.def_command.specs.Grammar.{Batch, Check, Command, Drill, Gen, Info, Plus, Solve, Upgrade, command_of_words}
use Rattle.def_command.specs.declared.Settings.{Settings}
use Rattle.def_command.proofs.InRange.{cards_in_range}
use Rattle.def_program.specs.CheckLines.{check_text, upgraded_text, verdict_text}
use Rattle.def_plus.specs.declared.Variant.{Variant}
use Rattle.def_plus.specs.declared.Variant.TheVariants as variants
use Rattle.def_program.specs.Program.{Answer, check_answer, game_answer, played, solved}
use Rattle.def_program.specs.Bounds.{IsPlayed, PlayedPart, written_alone}
use Rattle.def_program.specs.BatchText.{item_text}
use Rattle.def_check.specs.Accepting.{read_as_accepted}
use Rattle.def_program.specs.Meaning.{BothMean, CertificateMeans, CheckMeans, FileMeans, IsMeant, file_too_long, file_within, refused, too_long, within}
use Rattle.def_program.specs.Meaning.{written}
use Rattle.def_program.specs.Lines.{IsCheck}
use Rattle.def_program.specs.Checked.{AreChecked, checked_text}
use Rattle.def_program.proofs.Checked.{certificates_hold, upgraded_is}
use Rattle.def_program_laws.specs.Answers.{BatchesAreNeverRefused, IsPlayer, PartsAreSolvedAlone, ShowsOneCheck, SuccessIsOfOneCheck, SuccessIsOfOneGame}
use Rattle.def_program_laws.specs.Answers.{WritesOneGame}

-- a file stands for one game
one_game : (bytes : List ℕ) (game other : GameFile) → StandsFor bytes game → StandsFor bytes other → other ≡ game
one_game bytes game other is it =
    let same : Ok other ≡ Ok game = sym (game_taken bytes other it) ∙ game_taken bytes game is in cc

-- what an accepted file's game is, and its text, where the answer is a success
record IsOfGame (variant : Variant) (settings : Settings) (bytes : List ℕ) (answer : Answer) : Type 0 where
  game : GameFile
  accepted : IsAccepted bytes game
  text : answer.text ≡ played variant settings game

of_game : (variant : Variant) (settings : Settings) (bytes : List ℕ) (answer : Answer)
    → FileMeans (played variant settings) bytes answer → answer.status ≡ 0 → IsOfGame variant settings bytes answer
of_game variant settings bytes answer (written game is same) success =
    record { game = game; accepted = is; text = ap (λ (a : Answer). a.text) same }
of_game variant settings bytes answer (refused fault is same) success =
    let status : answer.status ≡ 1 = ap (λ (a : Answer). a.status) same in absurd cc

module _ (words : List (List ℕ)) (told : List ℕ → Option (List ℕ)) (answer : Answer) (success : answer.status ≡ 0) where
  -- the rounds of this variant are played on an accepted game of this content, whose text is written alone
  abbrev Plays : Option (List ℕ) → Variant → Settings → PlayedPart → Type 0
  Plays content variant settings part =
      IsSomeAnd content (λ bytes. IsAccepted bytes part.game) × (part ≡ written_alone variant part.game settings)

  -- a command that plays just that
  module _ (command : Command) (file : List ℕ) (variant : Variant) (settings : Settings)
      (plays : (part : PlayedPart) → Plays (told file) variant settings part → IsPlayed (Some command) told part)
      (played_as : (part : PlayedPart) → IsPlayed (Some command) told part → Plays (told file) variant settings part) where
    by_content : (content : Option (List ℕ)) → told file ≡ content
        → IsSomeAnd content (λ bytes. FileMeans (played variant settings) bytes answer)
        → WritesOneGame (Some command) told answer
    by_content None is means = absurd means
    by_content (Some bytes) is means =
        let of = of_game variant settings bytes answer means success in
        let there : Option (List ℕ) → GameFile → Type 0 = λ content game. IsSomeAnd content (λ b. IsAccepted b game) in
        record {
          part = written_alone variant of.game settings;
          played = plays (written_alone variant of.game settings)
              (subst (λ (content : Option (List ℕ)). there content of.game) (sym is) of.accepted, refl);
          only = λ other is_played.
              let parts = played_as other is_played in
              let it : IsAccepted bytes other.game = subst (λ (content : Option (List ℕ)). there content other.game) is parts.0 in
              parts.1 ∙ ap (λ (game : GameFile). written_alone variant game settings)
              (one_game bytes of.game other.game of.accepted.readable.stands it.readable.stands);
          text = of.text;
        }

  by_command : (command : Option Command) → command_of_words words ≡ command → IsPlayer command
      → IsMeant command told answer → WritesOneGame command told answer
  by_command None is player means = absurd player
  by_command (Some (Solve file settings rows)) is player means =
      by_content (Solve file settings rows) file variants.Plain settings (λ part it. it) (λ part it. it)
      (told file) refl means
  by_command (Some (Plus file settings rows)) is player means =
      by_content (Plus file settings rows) file variants.Plus settings (λ part it. it) (λ part it. it)
      (told file) refl means
  by_command (Some (Batch files settings workers)) is player means = absurd player
  by_command (Some (Check file certificate)) is player means = absurd player
  by_command (Some (Upgrade file certificate)) is player means = absurd player
  by_command (Some (Info file)) is player means = absurd player
  by_command (Some (Gen cards)) is player means = absurd player
  by_command (Some (Drill cards settings rows)) is player means =
      let range = cards_in_range.of_drill words cards settings rows is in
      let of = of_game variants.Plain settings (canon (poker cards)) answer means success in
      let made : poker cards ≡ of.game = one_game (canon (poker cards)) of.game (poker cards)
      of.accepted.readable.stands (poker_is_read_back cards range.some range.few).0 in
      record {
        part = written_alone variants.Plain (poker cards) settings;
        played = refl;
        only = λ other played. played;
        text = of.text ∙ ap (solved settings) (sym made);
      }

-- a success of `solve`, `drill` or `plus` is of one game
pub of_one_game : SuccessIsOfOneGame
of_one_game words told answer player means success =
    by_command words told answer success (command_of_words words) refl player means

-- ---- a check

-- what was found of a file that isn't too long, and the text of this, where the answer is a success
pub record IsOfVerdict (text : List ℕ → Verdict → List ℕ) (file bytes : List ℕ) (answer : Answer) : Type 0 where
  pub length_within : length file ≤ most_bytes
  pub shown : Verdict
  pub found : Checks file bytes (Ok shown)
  pub text_is : answer.text ≡ text bytes shown

module _ (text : List ℕ → Verdict → List ℕ) (file bytes : List ℕ) (answer : Answer) (success : answer.status ≡ 0) where
  of_found : length file ≤ most_bytes → (found : Result Verdict Refusal) → Checks file bytes found
      → answer ≡ check_answer (text bytes) found → IsOfVerdict text file bytes answer
  of_found short (Ok shown) checks same =
      record { length_within = short; shown = shown; found = checks; text_is = ap (λ (a : Answer). a.text) same }
  of_found short (Err why) checks same =
      let status : answer.status ≡ 1 = ap (λ (a : Answer). a.status) same in absurd cc

  of_certificate : length file ≤ most_bytes → CertificateMeans text file bytes answer → IsOfVerdict text file bytes answer
  of_certificate short (too_long h same) =
      let status : answer.status ≡ 1 = ap (λ (a : Answer). a.status) same in absurd cc
  of_certificate short (within h found checks same) = of_found short found checks same

  pub of_check : CheckMeans text file (Some bytes) answer → IsOfVerdict text file bytes answer
  of_check (file_too_long h same) = let status : answer.status ≡ 1 = ap (λ (a : Answer). a.status) same in absurd cc
  of_check (file_within h means) = of_certificate h means

no_certificate : (text : List ℕ → Verdict → List ℕ) (file : List ℕ) (answer : Answer) → answer.status ≡ 0
    → CheckMeans text file None answer → ⊥
no_certificate text file answer success (file_too_long h same) =
    let status : answer.status ≡ 1 = ap (λ (a : Answer). a.status) same in absurd cc
no_certificate text file answer success (file_within h means) = means

-- both files are told, and the answer's text is what is written of the certificate that the second one says
record IsOfBoth (first second : Option (List ℕ)) (said : VersionedCertificate → Verdict → List ℕ) (answer : Answer)
    : Type 0 where
  file : List ℕ
  bytes : List ℕ
  are : (first ≡ Some file) × (second ≡ Some bytes)
  certificate : VersionedCertificate
  text_of : IsTextOf bytes certificate
  shown : Verdict
  found : Checks file bytes (Ok shown)
  text_is : answer.text ≡ said certificate shown

module _ (text : List ℕ → Verdict → List ℕ) (said : VersionedCertificate → Verdict → List ℕ)
    (is_said : (bytes : List ℕ) (c : VersionedCertificate) (shown : Verdict) → IsTextOf bytes c
    → text bytes shown ≡ said c shown) (answer : Answer) (success : answer.status ≡ 0) where
  by_contents : (first second : Option (List ℕ)) → BothMean text first second answer → IsOfBoth first second said answer
  by_contents None second means = absurd means
  by_contents (Some file) None means = absurd (no_certificate text file answer success means)
  by_contents (Some file) (Some bytes) means =
      let of = of_check text file bytes answer success means in
      let it = certificates_hold file bytes of.shown of.found in
      record {
        file = file;
        bytes = bytes;
        are = (refl, refl);
        certificate = it.certificate;
        text_of = it.read.text;
        shown = of.shown;
        found = of.found;
        text_is = of.text_is ∙ is_said bytes it.certificate of.shown it.read.text;
      }

abbrev AreTold : Option (List ℕ) → Option (List ℕ) → List ℕ → List ℕ → Type 0
AreTold first second file bytes = (first ≡ Some file) × (second ≡ Some bytes)

-- where the command checks a certificate of what is told against a file of what is told
one_check : (told : List ℕ → Option (List ℕ)) (answer : Answer) (command : Option Command) (first second : Option (List ℕ))
    → ((file bytes : List ℕ) → AreTold first second file bytes → AreChecked command told file bytes)
    → ((file bytes : List ℕ) → AreChecked command told file bytes → AreTold first second file bytes)
    → IsOfBoth first second (checked_text command) answer → ShowsOneCheck command told answer
one_check told answer command first second there back of = record {
  file = of.file;
  bytes = of.bytes;
  checked = there of.file of.bytes of.are;
  only = λ other left checked.
      let those = back other left checked in
      (same_Some other of.file (sym those.0 ∙ of.are.0), same_Some left of.bytes (sym those.1 ∙ of.are.1));
  certificate = of.certificate;
  said = of.text_of;
  shown = of.shown;
  found = of.found;
  text = of.text_is;
}

checks_by_command : (told : List ℕ → Option (List ℕ)) (answer : Answer) → answer.status ≡ 0
    → (command : Option Command) → IsCheck command → IsMeant command told answer → ShowsOneCheck command told answer
checks_by_command told answer success None is means = absurd is
checks_by_command told answer success (Some (Solve file settings rows)) is means = absurd is
checks_by_command told answer success (Some (Check file certificate)) is means =
    one_check told answer (Some (Check file certificate)) (told file) (told certificate) (λ f b are. are) (λ f b are. are)
    (by_contents check_text (λ c shown. verdict_text shown) (λ bytes c shown said. refl) answer success (told file)
    (told certificate) means)
checks_by_command told answer success (Some (Upgrade file certificate)) is means =
    one_check told answer (Some (Upgrade file certificate)) (told file) (told certificate) (λ f b are. are) (λ f b are. are)
    (by_contents upgraded_text (λ c shown. versioned_text (upgraded c)) upgraded_is answer success (told file)
    (told certificate) means)
checks_by_command told answer success (Some (Info file)) is means = absurd is
checks_by_command told answer success (Some (Gen cards)) is means = absurd is
checks_by_command told answer success (Some (Drill cards settings rows)) is means = absurd is
checks_by_command told answer success (Some (Plus file settings rows)) is means = absurd is
checks_by_command told answer success (Some (Batch files settings workers)) is means = absurd is

-- a success of `check` or `upgrade` is of one certificate and one file
pub of_one_check : SuccessIsOfOneCheck
of_one_check words told answer checks means success =
    checks_by_command told answer success (command_of_words words) checks means

-- ---- a batch

same_means : (command other : Option Command) (told : List ℕ → Option (List ℕ)) (answer : Answer) → command ≡ other
    → IsMeant command told answer → IsMeant other told answer
same_means command other told answer same means = subst (λ (c : Option Command). IsMeant c told answer) same means

-- a batch is a success wherever it means something
pub never_refused : BatchesAreNeverRefused
never_refused words files told settings workers answer is means =
    let batch = same_means (command_of_words words) (Some (Batch files settings workers)) told answer is means in
    ap (λ (a : Answer). a.status) batch.2.text

-- a file's part is what is said of it alone
pub solved_alone : PartsAreSolvedAlone
solved_alone settings bytes = by_read (read_as_accepted bytes)
  where
    by_read : (r : Result GameFile FileFault)
        → item_text settings r ≡ (game_answer (solved settings) r).text ++ (game_answer (solved settings) r).line
    by_read (Ok game) = sym (append-nil (solved settings game))
    by_read (Err fault) = refl
