use Rattle.std.proofs.Common.{◌<◌, ◌∙◌, length, ap, arith, subst}
use Rattle.xg_batch.specs.declared.item.Item.{Item}
use Rattle.xg_batch.specs.Texts.{IsTextPart}
use Rattle.xg_batch.proofs.BatchTexts.{one_part_more}
use Rattle.xg_batch.proofs.batch_text.parts_of.Goals as goal

pub items-preserved : goal.items-preserved
items-preserved c =
    let low : c.items.i < length c.args.items.now = c.items-test.true in
    let pushed = c.push_reserved.ensures.items in
    record {
      so_far = one_part_more c.args.items.now c.items.i _ c.items.parts.items c.push_reserved.new.self.items
          c.in_ok-part.part low c.items.invariant.so_far
          (subst (λ (it : Item). IsTextPart it c.in_ok-part.part) c.index-items-i.is c.in_ok-part.ensures) pushed;
      count = omega (arith, ap length pushed, c.items.invariant.count);
      room = c.push_reserved.ensures.capacity ∙ c.items.invariant.room;
    }
