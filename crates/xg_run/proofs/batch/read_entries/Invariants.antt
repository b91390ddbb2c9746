use Rattle.std.proofs.Common.{◌≡◌, ◌+◌, ◌≤◌, ◌-◌, length, map, take, All}
use Rattle.std.specs.Prelude.{vec_capacity}
use Rattle.def_batch.specs.Batch.{batch_room, kept_bytes}
use Rattle.def_file.specs.Reading.{most_bytes}
use Rattle.xg_batch.specs.Items.{HasAtMost, batch_entry_seen}
use Rattle.xg_run.specs.Batches.{HaveContents}
use Rattle.xg_run.proofs.batch.read_entries.Given as goal

abbrev pub invariant-names : goal.invariant-names
invariant-names g l = record {
  so_far : HaveContents batch_room (map (λ name. g.F.Files.told l.fn.files name.now) (take l.i l.names))
      (map batch_entry_seen l.entries.items);
  within : All (HasAtMost most_bytes) l.entries.items;
  left : l.room ≡ batch_room - kept_bytes (map batch_entry_seen l.entries.items);
  count : length l.entries.items ≡ l.i;
  capacity : vec_capacity l.entries ≡ length l.names;
  same_told : g.F.Files.told l.files ≡ g.F.Files.told l.fn.files;
  same_names : g.F.Files.may_open l.files ≡ g.F.Files.may_open l.fn.files;
  opens : g.F.Files.opens l.files ≤ g.F.Files.opens l.fn.files + l.i;
  blameless : g.F.Files.faults l.files ≡ g.F.Files.faults l.fn.files;
}
