-- The games that words play are those of accepted files.
use Rattle.std.proofs.Common.{◌≡◌, ℕ, ◌≤◌, ◌<◌, List, ◌∷◌, ◌++◌, map, length, get_or, Option, Some, None, Result, Ok}
use Rattle.std.proofs.Common.{refl, sym, ap, ◌∙◌, subst, arith}
use Rattle.std.specs.Prelude.{IsSomeAnd}
use Rattle.std.proofs.lemmas.List.{get_or-map, length-append, length-map}
use Rattle.std.proofs.Math.Seq.{get_or-append_seam}
use Rattle.def_sums.specs.Limits.{least_cards, most_cards}
use Rattle.def_file.specs.declared.FileFault.{FileFault}
use Rattle.def_file.specs.Content.{GameFile}
use Rattle.def_file_form.proofs.FileReadingIsExact.{game_taken}
use Rattle.def_game_numbers.specs.Faultless.{IsFaultless}
use Rattle.def_canon.specs.Canon.{canon}
use Rattle.def_canon.specs.Poker.{poker}
use Rattle.def_canon.proofs.Written.{poker_is_read_back}
use Rattle.def_check.specs.Accepted.{IsAccepted}
use Rattle.def_check.specs.Accepting.{read_as_accepted}
use Rattle.def_check.proofs.InNumbers.{faultless_game}
use Rattle.def_batch.specs.Batch.{BatchEntry, Kept, Long, batch_entries, batch_room, item_of}
use Rattle.def_batch.proofs.Judged.{judged_alone}
use Rattle.def_command.specs.Grammar.{Batch, Check, Command, Drill, Gen, Info, Plus, Solve, Upgrade, command_of_words}
use Rattle.def_command.specs.declared.Settings.{Settings}
use Rattle.def_plus.specs.declared.Variant.{Variant}
use Rattle.def_plus.specs.declared.Variant.TheVariants as variants
use Rattle.def_command.proofs.InRange.{cards_in_range, settings_in_range}
use Rattle.def_program.specs.Program.{Answer, file_answer, solved}
use Rattle.def_program.specs.Meaning.{EachMeant, FileMeans, IsMeant, Means, refused, written}
use Rattle.def_program.specs.Bounds.{IsPartOf, IsPlayed, PlayedPart, written_alone}
use Rattle.def_program.proofs.Meant.{file_meant}

-- a game without a fault, played at a scale that isn't 0
pub record IsPlayedWell (part : PlayedPart) : Type 0 where
  pub faultless : IsFaultless part.game
  pub some_scale : 1 ≤ part.settings.scale

of_content : (content : Option (List ℕ)) (game : GameFile) → IsSomeAnd content (λ bytes. IsAccepted bytes game) → IsFaultless game
of_content None game is = absurd is
of_content (Some bytes) game is = faultless_game bytes game is

-- of a batch: an item that is a game stands for an accepted file
of_item : (entry : BatchEntry) (game : GameFile) → item_of entry ≡ Ok game → IsFaultless game
of_item (Kept bytes) game is = faultless_game bytes game (((judged_alone bytes).accepted game).0 is)
of_item Long game is = absurd cc

-- one-card poker whose file is meant to be solved, and isn't refused
of_poker : (cards : ℕ) → least_cards ≤ cards → cards ≤ most_cards → (settings : Settings) (answer : Answer)
    → FileMeans (solved settings) (canon (poker cards)) answer → answer.status ≡ 0 → IsFaultless (poker cards)
of_poker cards some few settings answer (written game is same) success =
    let read : Ok (poker cards) ≡ Ok game = sym (poker_is_read_back cards some few).1 ∙ game_taken (canon (poker cards)) game is.readable.stands in
    let one : game ≡ poker cards = cc in
    subst IsFaultless one (faultless_game (canon (poker cards)) game is)
of_poker cards some few settings answer (refused fault is same) success =
    let status : answer.status ≡ 1 = ap (λ (a : Answer). a.status) same in absurd cc

module _ (words : List (List ℕ)) (told : List ℕ → Option (List ℕ)) (whole : EachMeant (Means words told) (λ answer. answer.status ≡ 0)) where
  alone : (variant : Variant) (game : GameFile) (asked : Settings) (part : PlayedPart) → part ≡ written_alone variant game asked
      → IsFaultless game → 1 ≤ asked.scale → IsPlayedWell part
  alone variant game asked part is faultless some =
      subst IsPlayedWell (sym is) (record { faultless = faultless; some_scale = some })

  -- the part of a batch is an item, and so an entry's game
  between : (asked : Settings) (files : List (List ℕ)) (part : PlayedPart) → IsPartOf asked files part → 1 ≤ asked.scale
      → IsPlayedWell part
  between asked files part of some =
      let entries : List BatchEntry = batch_entries batch_room files in
      let place : ℕ = length of.before in
      let game : Result GameFile FileFault = Ok part.game in
      let count : length (map item_of entries) ≡ length (of.before ++ game ∷ of.behind) = ap length of.items in
      let there : place < length entries =
      omega (arith, count, length-map entries item_of, length-append of.before (game ∷ of.behind)) in
      let item : item_of (get_or entries place Long) ≡ game =
      sym (get_or-map item_of entries place Long game there) ∙ ap (λ items. get_or items place game) of.items
      ∙ get_or-append_seam of.before game of.behind game in
      subst IsPlayedWell (sym of.is) (record { faultless = of_item (get_or entries place Long) part.game item; some_scale = some })

  by_command : (command : Option Command) → command_of_words words ≡ command → (part : PlayedPart)
      → IsPlayed command told part → IsPlayedWell part
  by_command (Some (Solve file asked rows)) is part plays =
      alone variants.Plain part.game asked part plays.1 (of_content (told file) part.game plays.0)
      (settings_in_range.of_solve words file asked rows is).some_scale
  by_command (Some (Plus file asked rows)) is part plays =
      alone variants.Plus part.game asked part plays.1 (of_content (told file) part.game plays.0)
      (settings_in_range.of_plus words file asked rows is).some_scale
  by_command (Some (Batch names asked workers)) is part plays =
      between asked plays.0 part plays.2 (settings_in_range.of_batch words names asked workers is).some_scale
  by_command (Some (Drill cards asked rows)) is part plays =
      let range = cards_in_range.of_drill words cards asked rows is in
      let bytes : List ℕ = canon (poker cards) in
      let answer : Answer = file_answer (solved asked) bytes in
      let means : FileMeans (solved asked) bytes answer = file_meant (solved asked) bytes (read_as_accepted bytes) refl in
      let success = whole answer (subst (λ (command : Option Command). IsMeant command told answer) (sym is) means) in
      alone variants.Plain (poker cards) asked part plays (of_poker cards range.some range.few asked answer means success)
      (settings_in_range.of_drill words cards asked rows is).some_scale
  by_command (Some (Check file certificate)) is part plays = absurd plays
  by_command (Some (Upgrade file certificate)) is part plays = absurd plays
  by_command (Some (Info file)) is part plays = absurd plays
  by_command (Some (Gen cards)) is part plays = absurd plays
  by_command None is part plays = absurd plays

  -- each game that is played has no fault, and its scale isn't 0
  pub played_well : (part : PlayedPart) → IsPlayed (command_of_words words) told part → IsPlayedWell part
  played_well = by_command (command_of_words words) refl
