use Rattle.std.proofs.Common.{◌≡◌, ◌∙◌, All, List, ap, subst, sym}
use Rattle.xg_io.specs.Calls.{sink_call}
use Rattle.xg_batch.specs.Texts.{CanWritePart, items_shown, parts_bytes}
use Rattle.xg_batch.specs.declared.batch_text.Part.{Part}
use Rattle.xg_batch.proofs.BatchTexts.{parts_bytes_are, parts_can_be_written}
use Rattle.xg_load.proofs.TextIsTold.{tells, writes_of}
use Rattle.xg_batch.proofs.writing.write_items.Goals as goal

pub write_paged-written-requires : goal.write_paged-written-requires
write_paged-written-requires g c =
    subst (All CanWritePart) (sym c.deref.ensures.value)
    (parts_can_be_written c.args.items.now c.in-Ok.parts.items c.in-Ok.ensures)

pub returns : goal.returns
returns g c =
    let parts : List Part = c.deref.result.now in
    let are : parts_bytes 1 parts ≡ items_shown 1 c.args.items.now =
    ap (parts_bytes 1) c.deref.ensures.value ∙ parts_bytes_are 1 c.args.items.now c.in-Ok.parts.items c.in-Ok.ensures in
    tells (sink_call g.O.Sink c.args.out.now c.write_paged-written.new.out) (items_shown 1 c.args.items.now)
    (parts_bytes 1 parts) are c.write_paged-written.result c.of_written.result c.of_written.ensures
    (writes_of (g.O.Sink.written c.args.out.now) (g.O.Sink.written c.write_paged-written.new.out) (parts_bytes 1 parts)
    c.write_paged-written.result c.write_paged-written.ensures.appended c.write_paged-written.ensures.prefix)
    c.write_paged-written.ensures.cause
