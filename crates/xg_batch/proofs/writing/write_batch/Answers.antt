use Rattle.std.proofs.Common.{◌≡◌, ◌∙◌, ℕ, All, List, ap, map, subst, sym}
use Rattle.xg_io.specs.Calls.{sink_call}
use Rattle.def_batch.specs.Batch.{item_of}
use Rattle.def_program.specs.BatchText.{parts_text}
use Rattle.xg_batch.specs.Items.{batch_entry_seen}
use Rattle.xg_batch.specs.Texts.{CanBeShown, items_shown}
use Rattle.xg_load.specs.Endings.{Tells}
use Rattle.xg_batch.proofs.BatchTexts.{items_can_be_shown, items_text_is}
use Rattle.xg_batch.proofs.writing.write_batch.Goals as goal

pub write_items-ending-requires : goal.write_items-ending-requires
write_items-ending-requires g c =
    subst (All CanBeShown) (sym c.deref.ensures.value)
    (items_can_be_shown c.args.settings c.args.entries.now c.in-Ok.items.items c.in-Ok.ensures.each)

pub returns : goal.returns
returns g c =
    let text : List ℕ = parts_text c.args.settings 1 (map item_of (map batch_entry_seen c.args.entries.now)) in
    let are : items_shown 1 c.deref.result.now ≡ text =
    ap (items_shown 1) c.deref.ensures.value
    ∙ items_text_is c.args.settings 1 c.args.entries.now c.in-Ok.items.items c.in-Ok.ensures.each in
    subst (λ (them : List ℕ). Tells them (sink_call g.O.Sink c.args.out.now c.write_items-ending.new.out) c.write_items-ending.result)
    are c.write_items-ending.ensures
