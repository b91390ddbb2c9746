-- What is written of the files of a batch, part by part.
use Rattle.std.proofs.Common.{◌≡◌, ℕ, zero, suc, ◌+◌, ◌<◌, ◌≤◌, List, [], ◌∷◌, ◌++◌, length, map, drop, get_or, take, All, Option, Some, None, IfSome, Result}
use Rattle.std.proofs.Common.{Ok, Err, refl, sym, ap, ◌∙◌, subst, arith}
use Rattle.std.specs.Prelude.{IsOkAnd, IsSomeAnd}
use Rattle.std.specs.List.{AllZip}
use Rattle.std.specs.Io.KnownBytes.{append_known}
use Rattle.std.proofs.lemmas.List.{drop_more, take_more}
use Rattle.std.proofs.lemmas.List.Elements.{All-cons, All-nil}
use Rattle.def_outside.specs.Sinks.{AppendsPrefix}
use Rattle.xg_io.proofs.KnownBytesInPieces.{Progress, whole}
use Rattle.xg_io.proofs.Pieces.{fails, goes_on}
use Rattle.def_file.specs.declared.FileFault.{FileFault}
use Rattle.def_file.specs.Content.{GameFile}
use Rattle.def_plan.specs.Weighed.{WeighedGame}
use Rattle.def_reply.specs.Outcome.{Outcome}
use Rattle.def_run.specs.Run.{outcome}
use Rattle.def_plus.specs.declared.Variant.TheVariants.{Plain}
use Rattle.def_game_numbers.specs.Weighed.{weighed_game}
use Rattle.def_batch.specs.Batch.{BatchEntry, item_of}
use Rattle.def_program.specs.BatchText.{file_line, item_text, parts_text}
use Rattle.def_cert_accepted.specs.Writable.{IsOutcomeOf}
use Rattle.xg_engine.specs.State.{EngineState, head_with}
use Rattle.def_command.specs.declared.Settings.{Settings}
use Rattle.xg_batch.specs.Items.{AreItemsOf, IsItemOf, IsPlayedEngine, batch_entry_seen}
use Rattle.xg_batch.specs.declared.entry.Entry.{Entry}
use Rattle.xg_batch.specs.declared.item.Item.{Item}
use Rattle.xg_batch.specs.declared.item.Item.TheVariants.{Solved, Refused}
use Rattle.xg_batch.specs.declared.batch_text.Part.{Part}
use Rattle.xg_batch.specs.Texts.{CanBeShown, CanWritePart, HasOutcome, IsTextPart, item_shown, items_shown, left_shown, part_bytes, parts_bytes}
use Rattle.xg_batch.proofs.PlayedTexts.{played_is}

-- ---- items

module _ (settings : Settings) (engine : EngineState) where
  abbrev left : GameFile → Outcome
  left game = outcome (weighed_game game).form (head_with (weighed_game game) settings)

  solved_text : (game : GameFile) → IsPlayedEngine settings (weighed_game game) engine
      → left_shown engine.game.form engine.outcome ≡ item_text settings (Ok game)
  solved_text game is =
      ap (left_shown engine.game.form) is.outcome_is
      ∙ played_is Plain game settings engine.game.form (left game)
      (ap (λ (it : WeighedGame). it.form) is.game_is) refl

  solved_has_outcome : (game : GameFile) → IsPlayedEngine settings (weighed_game game) engine → HasOutcome engine
  solved_has_outcome game is = there engine.outcome is.outcome_is is.writable
    where
      there : (it : Option Outcome) → it ≡ Some (left game) → IfSome it (IsOutcomeOf engine.game.form)
          → IsSomeAnd it (IsOutcomeOf engine.game.form)
      there None none writable = absurd cc
      there (Some o) same writable = writable

module _ (settings : Settings) where
  item_text_is : (entry : BatchEntry) (item : Item) → IsItemOf settings entry item
      → item_shown item ≡ item_text settings (item_of entry)
  item_text_is entry (Refused fault) is = ap (item_text settings) (sym is)
  item_text_is entry (Solved engine) is = by_result (item_of entry) is
    where
      by_result : (r : Result GameFile FileFault) → IsOkAnd r (λ game. IsPlayedEngine settings (weighed_game game) engine)
          → left_shown engine.game.form engine.outcome ≡ item_text settings r
      by_result (Ok game) is = solved_text settings engine game is
      by_result (Err fault) is = absurd is

  item_can_be_shown : (entry : BatchEntry) (item : Item) → IsItemOf settings entry item → CanBeShown item
  item_can_be_shown entry (Refused fault) is = tt
  item_can_be_shown entry (Solved engine) is = by_result (item_of entry) is
    where
      by_result : (r : Result GameFile FileFault) → IsOkAnd r (λ game. IsPlayedEngine settings (weighed_game game) engine) → HasOutcome engine
      by_result (Ok game) is = solved_has_outcome settings engine game is
      by_result (Err fault) is = absurd is

  -- what is written of the items is the text of what the entries stand for
  pub items_text_is : (number : ℕ) (entries : List Entry) (items : List Item) → AreItemsOf settings entries items
      → items_shown number items ≡ parts_text settings number (map item_of (map batch_entry_seen entries))
  items_text_is number [] [] are = refl
  items_text_is number [] (item ∷ items) are = absurd are
  items_text_is number (entry ∷ entries) [] are = absurd are
  items_text_is number (entry ∷ entries) (item ∷ items) are =
      λ i. (file_line number ++ item_text_is (batch_entry_seen entry) item are.0 i)
      ++ items_text_is (number + 1) entries items are.1 i

  pub items_can_be_shown : (entries : List Entry) (items : List Item) → AreItemsOf settings entries items
      → All CanBeShown items
  items_can_be_shown [] [] are = All-nil CanBeShown
  items_can_be_shown [] (item ∷ items) are = absurd are
  items_can_be_shown (entry ∷ entries) [] are = absurd are
  items_can_be_shown (entry ∷ entries) (item ∷ items) are =
      All-cons CanBeShown item items (item_can_be_shown (batch_entry_seen entry) item are.0)
      (items_can_be_shown entries items are.1)

-- ---- parts

pub parts_bytes_are : (number : ℕ) (items : List Item) (parts : List Part) → AllZip IsTextPart items parts
    → parts_bytes number parts ≡ items_shown number items
parts_bytes_are number [] [] are = refl
parts_bytes_are number [] (part ∷ parts) are = absurd are
parts_bytes_are number (item ∷ items) [] are = absurd are
parts_bytes_are number (item ∷ items) (part ∷ parts) are =
    λ i. (file_line number ++ are.0.bytes i) ++ parts_bytes_are (number + 1) items parts are.1 i

pub parts_can_be_written : (items : List Item) (parts : List Part) → AllZip IsTextPart items parts → All CanWritePart parts
parts_can_be_written [] [] are = All-nil CanWritePart
parts_can_be_written [] (part ∷ parts) are = absurd are
parts_can_be_written (item ∷ items) [] are = absurd are
parts_can_be_written (item ∷ items) (part ∷ parts) are =
    All-cons CanWritePart part parts are.0.writable (parts_can_be_written items parts are.1)

zip_push : (items : List Item) (parts : List Part) (item : Item) (part : Part) → AllZip IsTextPart items parts
    → IsTextPart item part → AllZip IsTextPart (items ++ item ∷ []) (parts ++ part ∷ [])
zip_push [] [] item part are is = (is, tt)
zip_push [] (first ∷ parts) item part are is = absurd are
zip_push (first ∷ items) [] item part are is = absurd are
zip_push (first ∷ items) (second ∷ parts) item part are is = (are.0, zip_push items parts item part are.1 is)

-- the part of one item more
pub one_part_more : (items : List Item) (i : ℕ) (d : Item) (old new : List Part) (part : Part) → i < length items
    → AllZip IsTextPart (take i items) old → IsTextPart (get_or items i d) part → new ≡ old ++ part ∷ []
    → AllZip IsTextPart (take (i + 1) items) new
one_part_more items i d old new part there are is pushed =
    subst (λ (them : List Part). AllZip IsTextPart (take (i + 1) items) them) (sym pushed)
    (subst (λ (them : List Item). AllZip IsTextPart them (old ++ part ∷ [])) (sym (take_more items i d there))
    (zip_push (take i items) old (get_or items i d) part are is))

-- ---- parts that are written one after the other

parts_left : (number : ℕ) (parts : List Part) (i : ℕ) (d : Part) → i < length parts
    → parts_bytes number (drop i parts)
    ≡ (file_line number ++ part_bytes (get_or parts i d)) ++ parts_bytes (number + 1) (drop (i + 1) parts)
parts_left number parts i d there = ap (parts_bytes number) (drop_more parts i d there)

none_left : (number : ℕ) (parts : List Part) (i : ℕ) → length parts ≤ i → parts_bytes number (drop i parts) ≡ []
none_left number [] zero all = refl
none_left number [] (suc i) all = refl
none_left number (part ∷ parts) zero all = absurd (omega (arith, all))
none_left number (part ∷ parts) (suc i) all = none_left number parts i (omega (arith, all))

module _ (before now : Option (List ℕ)) (parts : List Part) (i : ℕ) where
  module _ (middle : Option (List ℕ)) (d : Part) (there : i < length parts)
      (p : Progress before middle (parts_bytes 1 parts) (parts_bytes (i + 1) (drop i parts))) where
    pub part_written : now ≡ append_known middle (file_line (i + 1) ++ part_bytes (get_or parts i d))
        → Progress before now (parts_bytes 1 parts) (parts_bytes (i + 1 + 1) (drop (i + 1) parts))
    part_written is =
        goes_on before middle now (parts_bytes 1 parts) (parts_bytes (i + 1) (drop i parts))
        (file_line (i + 1) ++ part_bytes (get_or parts i d)) (parts_bytes (i + 1 + 1) (drop (i + 1) parts)) p
        (parts_left (i + 1) parts i d there) is

    pub part_cut_off : AppendsPrefix middle now (file_line (i + 1) ++ part_bytes (get_or parts i d))
        → AppendsPrefix before now (parts_bytes 1 parts)
    part_cut_off front =
        fails before middle now (parts_bytes 1 parts) (parts_bytes (i + 1) (drop i parts))
        (file_line (i + 1) ++ part_bytes (get_or parts i d)) (parts_bytes (i + 1 + 1) (drop (i + 1) parts)) p
        (parts_left (i + 1) parts i d there) front

  pub all_written : length parts ≤ i
      → Progress before now (parts_bytes 1 parts) (parts_bytes (i + 1) (drop i parts))
      → now ≡ append_known before (parts_bytes 1 parts)
  all_written all p =
      whole before now (parts_bytes 1 parts) (parts_bytes (i + 1) (drop i parts)) p (none_left (i + 1) parts i all)
