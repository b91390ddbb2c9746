use Rattle.std.proofs.Common.{List, map, subst}
use Rattle.xg_io.specs.Calls.{files_call, sink_call}
use Rattle.def_batch.specs.Batch.{item_of}
use Rattle.def_program.specs.BatchText.{parts_text}
use Rattle.xg_batch.specs.Items.{batch_entry_seen}
use Rattle.xg_batch.specs.declared.entry.Entry.{Entry}
use Rattle.xg_load.specs.Endings.{Tells}
use Rattle.xg_run.proofs.BatchEntries.{ended}
use Rattle.xg_run.proofs.batch.batch.Goals as goal

pub returns-in-Ok-clause-concludes : goal.returns-in-Ok-clause-concludes
returns-in-Ok-clause-concludes g c =
    let settings = c.args.settings in
    ended settings (map (λ name. g.F.Files.told c.args.files.now name.now) c.args.names.now)
    (map batch_entry_seen c.in-Ok.entries.items) c.in-Ok.ensures.exact
    (files_call g.F.Files c.args.files.now c.read_entries.new.files)
    (sink_call g.O.Sink c.args.out.now c.write_batch-ending.new.out) c.in-Ok.ensures.cause
    c.write_batch-ending.result
    (subst (λ (them : List Entry). Tells (parts_text settings 1 (map item_of (map batch_entry_seen them)))
    (sink_call g.O.Sink c.args.out.now c.write_batch-ending.new.out) c.write_batch-ending.result)
    c.deref.ensures.value c.write_batch-ending.ensures)
