-- The bounds that are printed of a game that was played.
use Rattle.std.proofs.Common.{◌≡◌, ℕ, ◌+◌, ◌≤◌, List, [], ◌∷◌, ◌++◌, map, length, Option, Some, None, Result, Ok, refl, sym, ap, ◌∙◌, subst, arith}
use Rattle.std.specs.Prelude.{IsSomeAnd}
use Rattle.std.specs.Option.{option_map}
use Rattle.std.proofs.lemmas.List.{append-nil, length-map}
use Rattle.def_sums.specs.Limits.{least_cards, most_cards}
use Rattle.def_outside.specs.Calls.{SinkCall, Wrote}
use Rattle.def_tree.specs.declared.Kind.TheVariants.{One, Two}
use Rattle.def_tree.specs.Tree.{leaf_count, prefix}
use Rattle.def_file.specs.Content.{GameFile}
use Rattle.def_file.specs.declared.FileFault.{FileFault}
use Rattle.def_game_paths.specs.Paths.{leaf_visits}
use Rattle.def_game_scale.specs.Scale.{all_expected, expected, weights}
use Rattle.def_game_numbers.specs.Numbers.{game_file_fault, tables_of}
use Rattle.def_sequence_form.proofs.Leaves.{form_has_the_mass, leaves_counted, length-leaves_with}
use Rattle.def_plus.specs.declared.Variant.{Variant}
use Rattle.def_plus.specs.declared.Variant.TheVariants as variants
use Rattle.def_cert_verdict.specs.Certificate.{Certificate, PrintedBounds}
use Rattle.def_plan.specs.Weighed.{WeighedGame}
use Rattle.def_cert_verdict.specs.Laws.{IsHeadOf, with_bounds}
use Rattle.def_cert_accepted.specs.Bounds.{BoundsHold}
use Rattle.def_cert_accepted.proofs.Outcomes.{outcomes_have_bounds}
use Rattle.def_cert_versions.specs.Verdict.{in_version_two}
use Rattle.def_command.specs.Grammar.{Batch, Check, Command, Drill, Gen, Info, Plus, Solve, Upgrade, command_of_words}
use Rattle.def_command.specs.declared.Settings.{Settings}
use Rattle.def_command.proofs.InRange.{cards_in_range, settings_in_range}
use Rattle.def_canon.specs.Canon.{canon}
use Rattle.def_canon.specs.Poker.{poker}
use Rattle.def_file_form.specs.Laws.{StandsFor}
use Rattle.def_program.specs.Text.{form_of_file, game_certificate, game_head, played_text, text_of_variant}
use Rattle.def_batch.specs.Batch.{BatchEntry, Kept, Long, batch_entries, batch_room, item_of}
use Rattle.def_batch.proofs.Judged.{judged_alone}
use Rattle.def_program.specs.BatchText.{batch_text, file_line, parts_text}
use Rattle.def_program.specs.TextLines.{fault_line}
use Rattle.def_program.specs.Program.{Answer, file_answer, game_answer, played, refusal, solved, success}
use Rattle.def_check.specs.Accepted.{IsAccepted}
use Rattle.def_check.specs.Accepting.{read_as_accepted, unless_faulty}
use Rattle.def_program.specs.Meaning.{FileMeans, IsMeant, Means, written}
use Rattle.def_game_numbers.specs.Weighed.{weighed_game}
use Rattle.def_check.proofs.InNumbers.{some_unit, sets_in_order}
use Rattle.def_program.specs.Bounds.{CommandPlays, ForEachPlayed, HasItsBounds, IsPlayed, PlayedPart, WroteBounds, written_alone}
use Rattle.def_program.specs.Laws.{PlayedGamesHaveTheirBounds}
use Rattle.def_program.proofs.Batches.{all_told_is, batch_meant, text_between}
use Rattle.def_program.proofs.PokerFileIsRead.{made_accepted, made_is}
use Rattle.def_program.proofs.Meant.{file_meant}

-- a form has a leaf for each of its game's
pub leaves_are : (game : GameFile) → length (form_of_file game).leaves ≡ leaf_count (prefix game.tree)
leaves_are game =
    let tables = tables_of game in
    let many : length (weights tables game.tree) ≡ length (leaf_visits game.tree) =
    length-map (all_expected tables game.tree) _ ∙ length-map (leaf_visits game.tree) (expected tables) in
    length-leaves_with game.tree (leaf_visits game.tree) (weights tables game.tree) (omega (arith, many))
    ∙ leaves_counted game.tree

-- the head is that of the game in numbers
pub head_of_game : (game : GameFile) (settings : Settings) → IsHeadOf (weighed_game game) (game_head game settings)
head_of_game game settings = record {
  nodes = refl;
  leaves = sym (leaves_are game);
  sets_one = refl;
  sets_two = refl;
  sequences_one = refl;
  sequences_two = refl;
  unit = refl;
  sum_is = refl;
  mass_is = sym (form_has_the_mass.of_game (tables_of game) game.tree);
}

module _ (bytes : List ℕ) (game : GameFile) (stands : StandsFor bytes game) where
  abbrev numbers : WeighedGame
  numbers = weighed_game game

  -- what is printed of a game that a file stands for holds
  pub read_game_has_bounds : (variant : Variant) (settings : Settings) → 1 ≤ settings.rounds → 1 ≤ settings.scale
      → HasItsBounds variant game settings
  read_game_has_bounds variant settings some_round some_scale =
      let it =
      outcomes_have_bounds.of_rounds variant numbers (game_head game settings) (sets_in_order bytes game stands One refl)
      (sets_in_order bytes game stands Two refl) (head_of_game game settings) (some_unit bytes game stands) some_scale
      some_round in
      record {
        bounds = it.bounds;
        are = ap (λ (c : Certificate). c.bounds) it.are;
        text = ap (λ (c : Certificate). text_of_variant variant (in_version_two c)) it.are;
        hold = it.hold;
      }

-- what is printed of a game that was played holds
pub played_games_have_bounds : PlayedGamesHaveTheirBounds
played_games_have_bounds variant bytes game settings is some_round some_scale =
    read_game_has_bounds bytes game is.readable.stands variant settings some_round some_scale

-- ---- the files of a batch

-- the bytes of a file whose game stands among the items
record HasBytes (game : GameFile) : Type 0 where
  bytes : List ℕ
  accepted : IsAccepted bytes game

of_entry : (entry : BatchEntry) (game : GameFile) → item_of entry ≡ Ok game → HasBytes game
of_entry (Kept bytes) game is = record { bytes = bytes; accepted = ((judged_alone bytes).accepted game).0 is }
of_entry Long game is = absurd cc

item_at : (entries : List BatchEntry) (before : List (Result GameFile FileFault)) (game : GameFile)
    (behind : List (Result GameFile FileFault)) → map item_of entries ≡ before ++ Ok game ∷ behind → HasBytes game
item_at [] [] game behind is = absurd cc
item_at [] (item ∷ before) game behind is = absurd cc
item_at (entry ∷ entries) [] game behind is = let here : item_of entry ≡ Ok game = cc in of_entry entry game here
item_at (entry ∷ entries) (item ∷ before) game behind is =
    let rest : map item_of entries ≡ before ++ Ok game ∷ behind = cc in item_at entries before game behind rest

-- ---- where the text that is meant was written
module _ (words : List (List ℕ)) (told : List ℕ → Option (List ℕ)) (out : SinkCall)
    (Holds : WeighedGame → Variant → ℕ → PrintedBounds → Type 0)
    (holds : (game : WeighedGame) (variant : Variant) (scale : ℕ) (b : PrintedBounds) → BoundsHold game variant scale b
    → Holds game variant scale b) where
  abbrev IsWritten : Answer → Type 0
  IsWritten answer = (answer.status ≡ 0) × Wrote out answer.text

  module _ (variant : Variant) (game : GameFile) (asked : Settings) where
    -- where the text was written in its place, the bounds were written with it
    wrote_bounds : HasItsBounds variant game asked → (front back : List ℕ)
        → Wrote out (front ++ (played_text variant game asked ++ back))
        → WroteBounds Holds out (record { variant = variant; game = game; settings = asked; front = front; back = back })
    wrote_bounds it front back wrote =
        subst (λ (o : Option PrintedBounds). IsSomeAnd o
        (λ b. Wrote out (front ++ (text_of_variant variant (in_version_two (with_bounds (game_head game asked) b)) ++ back))
        × Holds (weighed_game game) variant asked.scale b))
        (sym it.are) (
          subst (λ text. Wrote out (front ++ (text ++ back))) it.text wrote,
          holds (weighed_game game) variant asked.scale it.bounds it.hold,
        )

    by_content : (content : Option (List ℕ)) → 1 ≤ asked.rounds → 1 ≤ asked.scale
        → ((answer : Answer) → IsSomeAnd content (λ bytes. FileMeans (played variant asked) bytes answer)
        → IsWritten answer)
        → IsSomeAnd content (λ bytes. IsAccepted bytes game)
        → WroteBounds Holds out (written_alone variant game asked)
    by_content None some_round some_scale whole plays = absurd plays
    by_content (Some bytes) some_round some_scale whole is =
        wrote_bounds (played_games_have_bounds variant bytes game asked is some_round some_scale) [] []
        (subst (Wrote out) (sym (append-nil (played_text variant game asked)))
        (whole (success (played_text variant game asked)) (written game is refl)).1)

  -- the same of a part that is this game's text alone
  by_alone : (variant : Variant) (asked : Settings) (content : Option (List ℕ)) (part : PlayedPart) (game : GameFile)
      → part ≡ written_alone variant game asked → 1 ≤ part.settings.rounds → 1 ≤ asked.scale
      → ((answer : Answer) → IsSomeAnd content (λ bytes. FileMeans (played variant asked) bytes answer)
      → IsWritten answer)
      → IsSomeAnd content (λ bytes. IsAccepted bytes game) → WroteBounds Holds out part
  by_alone variant asked content part game is some_round some_scale whole plays =
      subst (WroteBounds Holds out) (sym is) (by_content variant game asked content
      (subst (λ (p : PlayedPart). 1 ≤ p.settings.rounds) is some_round) some_scale whole plays)

  -- a game that was made and solved has no fault, since its line would be meant
  faultless : (cards : ℕ) → least_cards ≤ cards → cards ≤ most_cards → (asked : Settings)
      → ((answer : Answer) → FileMeans (solved asked) (canon (poker cards)) answer → IsWritten answer)
      → (o : Option FileFault) → game_file_fault (poker cards) ≡ o → game_file_fault (poker cards) ≡ None
  faultless cards some few asked whole None is = is
  faultless cards some few asked whole (Some fault) is =
      let answer : Answer = file_answer (solved asked) (canon (poker cards)) in
      let refused : answer ≡ refusal (fault_line fault) =
      made_is cards some few (solved asked)
      ∙ ap (λ (o : Option FileFault). game_answer (solved asked) (unless_faulty o (poker cards))) is in
      let written = whole answer
      (file_meant (solved asked) (canon (poker cards)) (read_as_accepted (canon (poker cards))) refl) in
      absurd (omega (arith, written.0, ap (λ (a : Answer). a.status) refused))

  -- a file of a batch whose items stand so
  by_part : (names : List (List ℕ)) (asked : Settings) (workers : Option ℕ) → 1 ≤ asked.scale
      → ((answer : Answer) → IsMeant (Some (Batch names asked workers)) told answer → IsWritten answer)
      → (part : PlayedPart) → CommandPlays (Batch names asked workers) told part → 1 ≤ part.settings.rounds
      → WroteBounds Holds out part
  by_part names asked workers some_scale whole part plays some_round =
      let of = plays.2 in
      let answer : Answer = success (batch_text asked plays.0) in
      let means : IsMeant (Some (Batch names asked workers)) told answer =
      batch_meant asked told names answer
      (ap (option_map (λ files. success (batch_text asked files))) (all_told_is told names plays.0 plays.1)) in
      let item = item_at (batch_entries batch_room plays.0) of.before part.game of.behind of.items in
      subst (WroteBounds Holds out) (sym of.is)
      (wrote_bounds variants.Plain part.game asked
      (read_game_has_bounds item.bytes part.game item.accepted.readable.stands variants.Plain asked
      (subst (λ (p : PlayedPart). 1 ≤ p.settings.rounds) of.is some_round) some_scale)
      (parts_text asked 1 of.before ++ file_line (length of.before + 1)) (parts_text asked (length of.before + 2) of.behind)
      (subst (Wrote out) (ap (parts_text asked 1) of.items ∙ text_between asked of.before part.game of.behind)
      (whole answer means).1))

  by_command : (command : Option Command) → command_of_words words ≡ command
      → ((answer : Answer) → IsMeant command told answer → IsWritten answer)
      → (part : PlayedPart) → IsPlayed command told part → 1 ≤ part.settings.rounds → WroteBounds Holds out part
  by_command (Some (Solve file asked rows)) is whole part plays some_round =
      by_alone variants.Plain asked (told file) part part.game plays.1 some_round
      (settings_in_range.of_solve words file asked rows is).some_scale whole plays.0
  by_command (Some (Plus file asked rows)) is whole part plays some_round =
      by_alone variants.Plus asked (told file) part part.game plays.1 some_round
      (settings_in_range.of_plus words file asked rows is).some_scale whole plays.0
  by_command (Some (Batch names asked workers)) is whole part plays some_round =
      by_part names asked workers (settings_in_range.of_batch words names asked workers is).some_scale whole part plays
      some_round
  by_command (Some (Check file certificate)) is whole part plays some_round = absurd plays
  by_command (Some (Upgrade file certificate)) is whole part plays some_round = absurd plays
  by_command (Some (Info file)) is whole part plays some_round = absurd plays
  by_command (Some (Gen cards)) is whole part plays some_round = absurd plays
  by_command (Some (Drill cards asked rows)) is whole part plays some_round =
      let range = cards_in_range.of_drill words cards asked rows is in
      let in_range = settings_in_range.of_drill words cards asked rows is in
      let none : game_file_fault (poker cards) ≡ None =
      faultless cards range.some range.few asked whole (game_file_fault (poker cards)) refl in
      by_alone variants.Plain asked (Some (canon (poker cards))) part (poker cards) plays some_round in_range.some_scale
      whole (made_accepted cards range.some range.few none)
  by_command None is whole part plays some_round = absurd plays

  -- the bounds were written with it, and hold
  pub each_played : ((answer : Answer) → Means words told answer → IsWritten answer)
      → ForEachPlayed words told out Holds
  each_played whole = by_command (command_of_words words) refl whole
