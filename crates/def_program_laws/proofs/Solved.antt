-- What `solve` and `drill` write is accepted.
use Rattle.std.proofs.Common.{◌≡◌, ℕ, zero, suc, ◌<◌, ◌≤◌, Bool, cond, List, length, Option, Some, Result, Ok, Err, refl, sym, ap, ◌∙◌, subst, arith}
use Rattle.std.specs.Option.{option_map}
use Rattle.std.proofs.lemmas.Bool.{le-ltb}
use Rattle.std.proofs.lemmas.Option.{same_Some}
use Rattle.def_tree.specs.declared.Kind.TheVariants.{One, Two}
use Rattle.def_fraction.specs.Fraction.{Fraction}
use Rattle.def_file.specs.Content.{GameFile}
use Rattle.def_file.specs.declared.FileFault.{FileFault}
use Rattle.def_file.specs.declared.FileFault.TheVariants.{TooLong}
use Rattle.def_file.specs.Reading.{most_bytes}
use Rattle.def_run.proofs.RunLaws.{runs_have_ends}
use Rattle.def_cert_verdict.specs.Certificate.{PrintedBounds, Certificate}
use Rattle.def_cert_verdict.specs.Verdict.{Verdict, bracket, head_only, verdict}
use Rattle.def_cert_verdict.proofs.VerdictIsExact.{exact}
use Rattle.def_cert_accepted.proofs.Accepted.{accepted as run_accepted}
use Rattle.def_cert_accepted.proofs.Fits.{fits_always}
use Rattle.def_cert_verdict.specs.Ranges.{CertificateFits}
use Rattle.def_cert_text.specs.Versions.{VersionedCertificate, VersionedFits, in_version_one}
use Rattle.def_cert_text.specs.CertText.{versioned_text}
use Rattle.def_cert_text.specs.declared.fault.CertFault.TheVariants.{CertSyntax}
use Rattle.def_cert_text.proofs.PlusTexts.{no_certificates}
use Rattle.def_cert_text.proofs.TextLaws.{first_versioned_fault, versioned_reading}
use Rattle.def_cert_versions.specs.Verdict.{in_version_two, upgraded, versioned_verdict}
use Rattle.def_cert_versions.proofs.VersionedVerdict.{old_verdicts}
use Rattle.def_cert_versions.proofs.Upgrades.{upgraded_texts}
use Rattle.def_check.specs.Accepting.{read_as_accepted}
use Rattle.def_check.proofs.FileAccepted.{accepted_whole_file}
use Rattle.def_check.specs.Accepted.{IsAccepted}
use Rattle.def_game_numbers.specs.Weighed.{weighed_game}
use Rattle.def_check.proofs.InNumbers.{faultless_game, sets_in_order, some_unit}
use Rattle.def_sequence_form.proofs.Sets.{form_numbers_as_the_tree}
use Rattle.def_check.specs.Check.{Refusal, checked, most_cert_bytes, of_certificate}
use Rattle.def_check.specs.Checking.{passed, unreadable}
use Rattle.def_check.proofs.Checked.{checks_are}
use Rattle.def_command.specs.Grammar.{Check, Command, command_of_words}
use Rattle.def_command.specs.declared.Settings.{Settings}
use Rattle.def_command.specs.GrammarLaws.{InRange}
use Rattle.def_command.proofs.InRange.{cards_in_range, settings_in_range}
use Rattle.def_canon.specs.Canon.{canon}
use Rattle.def_canon.specs.Poker.{poker}
use Rattle.def_program.specs.TextLines.{fault_line}
use Rattle.def_program.specs.CheckLines.{cert_long_line, check_text}
use Rattle.def_plus.specs.declared.Variant.TheVariants.{Plain, Plus}
use Rattle.def_program.specs.Text.{form_of_file, game_certificate, game_head, played_text, solve_text}
use Rattle.def_program.specs.Program.{Answer, answer_of, both_told, certificate_answer, check_answer, check_told, file_answer, game_answer, made_answer}
use Rattle.def_program.specs.Program.{program, refusal, solved, success}
use Rattle.def_program.proofs.PokerFileIsRead.{made_is}
use Rattle.def_program.proofs.Played.{head_of_game, played_games_have_bounds}
use Rattle.def_program.specs.Bounds.{HasItsBounds}
use Rattle.def_program_laws.specs.SolveLaws.{AreAcceptedAlike, IsAcceptedWithBounds, IsTaken, OldTextsAreAccepted, PlusTextsAreRefused, SolvedTextsAreAccepted}
use Rattle.def_program_laws.specs.SolveLaws.{SolvedTextsAreShort, WhatDrillWritesCheckAccepts, WhatSolveWritesCheckAccepts, solve_text_in_one}
use Rattle.def_program_laws.proofs.Heads.{game_tree, head_fits}
use Rattle.def_program_laws.proofs.CertificatesAreShort.{accepted_short}

abbrev certificate_of_game : GameFile → Settings → Certificate
certificate_of_game game settings = game_certificate Plain game settings

module _ (file : List ℕ) (game : GameFile) (is : IsAccepted file game) (c : VersionedCertificate) (shown : Verdict)
    (fits : VersionedFits c) (judged : versioned_verdict (weighed_game game) c ≡ Ok shown) where
  -- the verdict on what is within its ranges is checked of its text
  pub text_is_taken : checked file (versioned_text c) ≡ Ok shown
  text_is_taken =
      (checks_are file (versioned_text c) is.readable.length_within (Ok shown)).0
      (passed game c (record { accepted = is; text = record { fits = fits; text = refl } }) shown judged refl)

module _ (file : List ℕ) (game : GameFile) (is : IsAccepted file game) (c : VersionedCertificate) (shown : Verdict)
    (fits : VersionedFits c) (judged : versioned_verdict (weighed_game game) c ≡ Ok shown) where
  -- and of the text of its upgrade
  pub upgrade_is_taken : checked file (versioned_text (upgraded c)) ≡ Ok shown
  upgrade_is_taken =
      let it = upgraded_texts game (versioned_text c) c shown (faultless_game file game is)
      ((versioned_reading (versioned_text c) c).1 (fits, refl)) judged in
      text_is_taken file game is (upgraded c) shown ((versioned_reading (versioned_text (upgraded c)) (upgraded c)).0 it.read).0
      it.accepted

module _ (file : List ℕ) (game : GameFile) (settings : Settings) (workers : Option ℕ) (is : IsAccepted file game)
    (range : InRange settings workers) where
  certificate_fits : CertificateFits (certificate_of_game game settings)
  certificate_fits =
      let one = form_numbers_as_the_tree game.tree (game_tree file game is) One refl in
      let two = form_numbers_as_the_tree game.tree (game_tree file game is) Two refl in
      fits_always (weighed_game game) (game_head game settings) (sets_in_order file game is.readable.stands One refl)
      (sets_in_order file game is.readable.stands Two refl) (λ k set low. (one.actions k set low).1)
      (λ k set low. (two.actions k set low).1) (head_of_game game settings)
      (head_fits file game is settings workers range)

  old_fits : VersionedFits (in_version_one (certificate_of_game game settings))
  old_fits = record { certificate = certificate_fits; second = refl }

  module _ (shown : Verdict) (judged : verdict (weighed_game game) (certificate_of_game game settings) ≡ Ok shown) where
    old_verdict : versioned_verdict (weighed_game game) (in_version_one (certificate_of_game game settings)) ≡ Ok shown
    old_verdict = (old_verdicts.accepted (weighed_game game) (certificate_of_game game settings) shown).1 judged

    -- what its verdict is, is checked of the text of version 1
    checked_in_one : checked file (solve_text_in_one game settings) ≡ Ok shown
    checked_in_one =
        text_is_taken file game is (in_version_one (certificate_of_game game settings)) shown old_fits old_verdict

    -- and of that of version 2
    checked_is : checked file (solve_text game settings) ≡ Ok shown
    checked_is =
        upgrade_is_taken file game is (in_version_one (certificate_of_game game settings)) shown old_fits old_verdict

  judged_alone : settings.rounds ≡ 0 → verdict (weighed_game game) (certificate_of_game game settings) ≡ Ok head_only
  judged_alone none =
      run_accepted.no_round (weighed_game game) (game_head game settings) (head_of_game game settings) none

  no_round : settings.rounds ≡ 0 → checked file (solve_text game settings) ≡ Ok head_only
  no_round none = checked_is head_only (judged_alone none)

  -- what is shown of bounds that are there is these bounds
  own_bounds : (b : PrintedBounds) (low high : Fraction) → (certificate_of_game game settings).bounds ≡ Some b
      → verdict (weighed_game game) (certificate_of_game game settings) ≡ Ok (bracket low high)
      → verdict (weighed_game game) (certificate_of_game game settings) ≡ Ok (bracket b.low b.high)
  own_bounds b low high are judged =
      let head = (certificate_of_game game settings).head in
      let same : certificate_of_game game settings ≡ record { head = head; bounds = Some b } =
      ap (λ (o : Option PrintedBounds). record { head = head; bounds = o }) are in
      let parts = (exact.with_bracket (weighed_game game) head b low high).0
      (ap (verdict (weighed_game game)) (sym same) ∙ judged) in
      judged ∙ ap (λ (f : Fraction). Ok (bracket f high)) parts.2 ∙ ap (λ (f : Fraction). Ok (bracket b.low f)) parts.3

  module _ (some : 1 ≤ settings.rounds) where
    has : HasItsBounds Plain game settings
    has = played_games_have_bounds Plain file game settings is some range.some_scale

    judged_with_bounds : verdict (weighed_game game) (certificate_of_game game settings)
        ≡ Ok (bracket has.bounds.low has.bounds.high)
    judged_with_bounds =
        let ends = runs_have_ends (form_of_file game) settings.scale settings.every settings.rounds some in
        own_bounds has.bounds _ _ has.are (run_accepted.some_round (weighed_game game) (game_head game settings) ends.0
        (sets_in_order file game is.readable.stands One refl) (sets_in_order file game is.readable.stands Two refl)
        (head_of_game game settings) (some_unit file game is.readable.stands) range.some_scale ends.1)

    some_round : IsAcceptedWithBounds file game settings
    some_round = record {
      bounds = has.bounds;
      are = has.are;
      text = has.text;
      shown = checked_is (bracket has.bounds.low has.bounds.high) judged_with_bounds;
    }

-- the text of `solve` is accepted
pub solved_accepted : SolvedTextsAreAccepted
solved_accepted = record { no_round = no_round; some_round = some_round }

-- what is shown, with any number of rounds
record HasVerdict (file : List ℕ) (text : List ℕ) : Type 0 where
  shown : Verdict
  is : checked file text ≡ Ok shown

shown_of : (file : List ℕ) (game : GameFile) (settings : Settings) (workers : Option ℕ) → IsAccepted file game
    → InRange settings workers → (rounds : ℕ) → settings.rounds ≡ rounds → HasVerdict file (solve_text game settings)
shown_of file game settings workers is range zero none =
    record { shown = head_only; is = no_round file game settings workers is range none }
shown_of file game settings workers is range (suc n) some =
    let with = some_round file game settings workers is range (omega (arith, some)) in
    record { shown = bracket with.bounds.low with.bounds.high; is = with.shown }

-- and so is the text of version 1, with the same verdict
pub old_accepted : OldTextsAreAccepted
old_accepted file game settings workers is range = by_rounds settings.rounds refl
  where
    alike : (shown : Verdict) → verdict (weighed_game game) (certificate_of_game game settings) ≡ Ok shown
        → AreAcceptedAlike file (solve_text game settings) (solve_text_in_one game settings)
    alike shown judged = record {
      shown = shown;
      first = checked_is file game settings workers is range shown judged;
      second = checked_in_one file game settings workers is range shown judged;
    }

    by_rounds : (rounds : ℕ) → settings.rounds ≡ rounds
        → AreAcceptedAlike file (solve_text game settings) (solve_text_in_one game settings)
    by_rounds zero none = alike head_only (judged_alone file game settings workers is range none)
    by_rounds (suc n) some = alike _ (judged_with_bounds file game settings workers is range (omega (arith, some)))

-- the text of `solve` isn't too long
pub solved_short : SolvedTextsAreShort
solved_short file game settings workers is range =
    let found = shown_of file game settings workers is range settings.rounds refl in
    accepted_short file (solve_text game settings) found.shown is.readable.length_within found.is

-- ---- the words of both calls
-- a text that was written is that of an accepted file's game
record IsSolved (bytes text : List ℕ) (settings : Settings) : Type 0 where
  game : GameFile
  is : IsAccepted bytes game
  text_is : solve_text game settings ≡ text

was_solved : (bytes text : List ℕ) (settings : Settings) (r : Result GameFile FileFault) → read_as_accepted bytes ≡ r
    → game_answer (solved settings) r ≡ success text → IsSolved bytes text settings
was_solved bytes text settings (Err fault) read answer = absurd (omega (arith, ap (λ (a : Answer). a.status) answer))
was_solved bytes text settings (Ok game) read answer =
    record { game = game; is = (accepted_whole_file bytes game).0 read; text_is = ap (λ (a : Answer). a.text) answer }

-- what is said of files that are told and aren't too long
pub said_of : (said : List ℕ → Verdict → List ℕ) (first second : Option (List ℕ)) (bytes text : List ℕ) (shown : Verdict)
    → first ≡ Some bytes → second ≡ Some text → length bytes ≤ most_bytes → length text < most_cert_bytes
    → checked bytes text ≡ Ok shown → both_told said first second ≡ Some (success (said text shown))
said_of said first second bytes text shown there other short few is =
    ap (λ (o : Option (List ℕ)). both_told said o second) there
    ∙ ap (check_told said bytes) other
    ∙ ap (λ (b : Bool). cond b (Some (refusal (fault_line TooLong))) (Some (certificate_answer said bytes text)))
    (le-ltb most_bytes (length bytes) short)
    ∙ ap (λ (b : Bool). Some (cond b (refusal cert_long_line) (check_answer (said text) (checked bytes text))))
    (le-ltb most_cert_bytes (length text) (omega (arith, few)))
    ∙ ap (λ (r : Result Verdict Refusal). Some (check_answer (said text) r)) is

-- words of `check` that name files which tell a game and what is written of it
module _ (others : List (List ℕ)) (after : List ℕ → Option (List ℕ)) (game_path text_path bytes text : List ℕ)
    (settings : Settings) (workers : Option ℕ) (range : InRange settings workers)
    (check : command_of_words others ≡ Some (Check game_path text_path)) (game_there : after game_path ≡ Some bytes)
    (text_there : after text_path ≡ Some text) where
  taken : file_answer (solved settings) bytes ≡ success text → IsTaken others after
  taken wrote =
      let found = was_solved bytes text settings (read_as_accepted bytes) refl wrote in
      let seen = shown_of bytes found.game settings workers found.is range settings.rounds refl in
      let few = solved_short bytes found.game settings workers found.is range in
      record {
        shown = seen.shown;
        said = ap (λ (c : Option Command). answer_of c after) check
            ∙ said_of check_text (after game_path) (after text_path) bytes text seen.shown game_there text_there
            found.is.readable.length_within
            (subst (λ (t : List ℕ). length t < most_cert_bytes) found.text_is few)
            (subst (λ (t : List ℕ). checked bytes t ≡ Ok seen.shown) found.text_is seen.is);
      }

-- what `solve` wrote, `check` accepts
pub check_accepts : WhatSolveWritesCheckAccepts
check_accepts words others told after path game_path text_path bytes text settings rows solve holds wrote check game_there text_there =
    let answered : Some (file_answer (solved settings) bytes) ≡ program words told =
    ap (option_map (file_answer (solved settings))) (sym holds)
    ∙ ap (λ (c : Option Command). answer_of c told) (sym solve) in
    taken others after game_path text_path bytes text settings rows.workers
    (settings_in_range.of_solve words path settings rows solve) check game_there text_there
    (same_Some (file_answer (solved settings) bytes) (success text) (answered ∙ wrote))

-- what `drill` wrote, `check` accepts against what `gen` wrote
pub drill_accepts : WhatDrillWritesCheckAccepts
drill_accepts words makers others told before after game_path text_path bytes text cards settings rows drill wrote gen made check game_there text_there =
    let cards_are = cards_in_range.of_drill words cards settings rows drill in
    let file_is : canon (poker cards) ≡ bytes =
    ap (λ (a : Answer). a.text) (same_Some (success (canon (poker cards))) (success bytes)
    (ap (λ (c : Option Command). answer_of c before) (sym gen) ∙ made)) in
    let answered : Some (made_answer (solved settings) (poker cards)) ≡ program words told =
    ap (λ (c : Option Command). answer_of c told) (sym drill) in
    taken others after game_path text_path bytes text settings rows.workers
    (settings_in_range.of_drill words cards settings rows drill) check game_there text_there
    (ap (file_answer (solved settings)) (sym file_is)
    ∙ made_is cards cards_are.some cards_are.few (solved settings)
    ∙ same_Some (made_answer (solved settings) (poker cards)) (success text) (answered ∙ wrote))

-- a text of CFR+ is refused at its first byte
pub plus_refused : PlusTextsAreRefused
plus_refused file game of settings is =
    let text : List ℕ = played_text Plus of settings in
    let read = no_certificates (in_version_two (game_certificate Plus of settings)) in
    (checks_are file text is.readable.length_within (Err (of_certificate (CertSyntax 0)))).0
    (unreadable game is (CertSyntax 0) ((first_versioned_fault text (CertSyntax 0)).0 read) refl)
