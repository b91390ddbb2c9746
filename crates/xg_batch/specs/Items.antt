-- What becomes of the files of a batch.
--     batch_entry_seen                    an entry, as the definitions have it
--     IsItemOf settings entry item        the item of an entry, where this is asked
--     AreItemsOf settings entries items   of each entry its item, in order
use Rattle.std.specs.Prelude.{◌≡◌, ℕ, ◌≤◌, List, Some, Err, IfSome, IsOkAnd}
use Rattle.std.specs.List.{AllZip}
use Rattle.def_plan.specs.Weighed.{WeighedGame}
use Rattle.def_game_numbers.specs.Weighed.{weighed_game}
use Rattle.def_run.specs.Run.{outcome}
use Rattle.def_batch.specs.Batch.{BatchEntry, Kept, Long, entry_bytes, item_of}
use Rattle.def_cert_accepted.specs.Writable.{IsOutcomeOf}
use Rattle.xg_engine.specs.State.{EngineState, head_with}
use Rattle.def_command.specs.declared.Settings.{Settings}
use Rattle.xg_batch.specs.declared.entry.Entry.{Entry}
use Rattle.xg_batch.specs.declared.entry.Entry.TheVariants.{Bytes, TooLong}
use Rattle.xg_batch.specs.declared.item.Item.{Item}
use Rattle.xg_batch.specs.declared.item.Item.TheVariants.{Solved, Refused}

-- ---- entries
abbrev pub batch_entry_seen : Entry → BatchEntry
batch_entry_seen (Bytes bytes) = Kept bytes
batch_entry_seen TooLong = Long

abbrev pub HasAtMost : ℕ → Entry → Type 0
HasAtMost most entry = entry_bytes (batch_entry_seen entry) ≤ most

-- ---- items
-- the engine has this game, and its outcome is that of the rounds, which can be written
pub record IsPlayedEngine (settings : Settings) (game : WeighedGame) (engine : EngineState) : Type 0 where
  pub game_is : engine.game ≡ game
  pub outcome_is : engine.outcome ≡ Some (outcome game.form (head_with game settings))
  pub writable : IfSome engine.outcome (IsOutcomeOf engine.game.form)

-- the file is accepted and its game solved, or it has this first fault
abbrev pub IsItemOf : Settings → BatchEntry → Item → Type 0
IsItemOf settings entry (Solved engine) = IsOkAnd (item_of entry)
    (λ game. IsPlayedEngine settings (weighed_game game) engine)
IsItemOf settings entry (Refused fault) = item_of entry ≡ Err fault

abbrev pub AreItemsOf : Settings → List Entry → List Item → Type 0
AreItemsOf settings entries items = AllZip (λ entry item. IsItemOf settings (batch_entry_seen entry) item) entries items

-- the same of a game in numbers
abbrev pub IsPlayedItem : Settings → WeighedGame → Item → Type 0
IsPlayedItem settings game (Solved engine) = IsPlayedEngine settings game engine
IsPlayedItem settings game (Refused fault) = ⊥
