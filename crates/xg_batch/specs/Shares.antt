-- The files of each worker, and what the workers hold.
--     share workers number below        the files of a worker below a number: those that leave its number
--     HoldsShare batch number below     the items of those files
--     HasItemsFrom batch first items    the items of the files from one on, the last one's first
use Rattle.std.specs.Prelude.{◌≡◌, ℕ, ◌-◌, ◌%◌, ◌<◌, ◌≤◌, ◌==◌, zero, suc, if◌then◌else◌, false, List, [], ◌∷◌, ◌++◌}
use Rattle.std.specs.Prelude.{length, reverse, slice_get, slice_index_or, All, IsSomeAnd}
use Rattle.std.specs.List.{AllZip, range_with_len}
use Rattle.def_file.specs.Reading.{most_bytes}
use Rattle.def_sums.specs.Limits.{most_workers}
use Rattle.def_command.specs.Table.{most_files}
use Rattle.xg_engine.specs.State.{AreWithinLimits}
use Rattle.def_command.specs.declared.Settings.{Settings}
use Rattle.xg_batch.specs.Items.{HasAtMost, IsItemOf, batch_entry_seen}
use Rattle.xg_batch.specs.declared.entry.Entry.{Entry}
use Rattle.xg_batch.specs.declared.item.Item.{Item}
use Rattle.xg_batch.specs.declared.worker.Batch.{Batch}
use Rattle.xg_batch.specs.declared.worker.Worker.{Worker}

-- what can be solved
pub record CanBeSolved (batch : Batch) : Type 0 where
  pub few_files : length batch.entries.now ≤ most_files
  pub lengths : All (HasAtMost most_bytes) batch.entries.now
  pub limits : AreWithinLimits batch.settings
  pub some_worker : 1 ≤ batch.workers
  pub few_workers : batch.workers ≤ most_workers

-- the item of the file of this number
abbrev pub IsItemAt : Settings → List Entry → ℕ → Item → Type 0
IsItemAt settings entries file item =
    IsSomeAnd (slice_get entries file) (λ entry. IsItemOf settings (batch_entry_seen entry) item)

abbrev pub AreItemsAt : Batch → List ℕ → List Item → Type 0
AreItemsAt batch files items = AllZip (IsItemAt batch.settings batch.entries.now) files items

-- ---- while the workers work
abbrev pub share : ℕ → ℕ → ℕ → List ℕ
share workers number zero = []
share workers number (suc file) =
    if file % workers == number then share workers number file ++ file ∷ [] else share workers number file

abbrev pub HoldsShare : Batch → ℕ → ℕ → List Item → Type 0
HoldsShare batch number below items = AreItemsAt batch (share batch.workers number below) items

-- a worker that doesn't want memory has the items of all its files
abbrev pub HasShare : Batch → ℕ → Worker → Type 0
HasShare batch number worker =
    worker.wants_memory ≡ false → HoldsShare batch number (length batch.entries.now) worker.items.items

abbrev pub HaveShares : Batch → List Worker → Type 0
HaveShares batch crew =
    (number : ℕ) (other : Worker) → number < length crew → HasShare batch number (slice_index_or crew number other)

-- ---- while their items are gathered
abbrev pub HaveSharesBelow : Batch → ℕ → List Worker → Type 0
HaveSharesBelow batch below crew = (number : ℕ) (other : Worker) → number < length crew
    → HoldsShare batch number below (slice_index_or crew number other).items.items

abbrev pub HasItemsFrom : Batch → ℕ → List Item → Type 0
HasItemsFrom batch first items =
    AreItemsAt batch (range_with_len first (length batch.entries.now - first)) (reverse items)
