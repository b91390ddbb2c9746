use Rattle.std.proofs.Common.{◌<◌, ◌∙◌, length, ap, subst, arith, rules}
use Rattle.std.specs.Io.KnownBytes.{append_known}
use Rattle.def_outside.specs.Sinks.{AppendsPrefix}
use Rattle.xg_cert.specs.declared.items.Item.{Item}
use Rattle.xg_cert.specs.Items.{field_bytes, separator_of}
use Rattle.xg_cert.specs.Writes.{field_text}
use Rattle.xg_cert.proofs.Written.{item_step, item_fail, item_end}
use Rattle.xg_cert.proofs.items.put_items.Goals as goal

pub returns-in_err-put_item-clause-text : goal.returns-in_err-put_item-clause-text
returns-in_err-put_item-clause-text g c =
    let low : c.items.i < length c.args.items.now = c.items-test.true in
    let fact = item_fail _ (g.O.Sink.written c.items.out) _ c.args.items.now c.items.i _ low c.items.invariant.so_far
    (subst (λ (it : Item). AppendsPrefix (g.O.Sink.written c.items.out) (g.O.Sink.written c.put_item.new.out) (field_text (field_bytes it) (separator_of it)))
    c.index-items-i.is c.in_err-put_item.ensures.text) in
    search (rules, fact)

pub items-preserved : goal.items-preserved
items-preserved g c =
    let low : c.items.i < length c.args.items.now = c.items-test.true in
    record {
      so_far = item_step _ (g.O.Sink.written c.items.out) _ c.args.items.now c.items.i _ low c.items.invariant.so_far
          (c.in_ok-put_item.ensures.text ∙ ap (λ (it : Item). append_known (g.O.Sink.written c.items.out) (field_text (field_bytes it) (separator_of it)))
          c.index-items-i.is);
      blameless = c.in_ok-put_item.ensures.cause ∙ c.items.invariant.blameless;
    }

pub returns-clause-text : goal.returns-clause-text
returns-clause-text g c = item_end _ _ c.args.items.now c.items.i (omega (arith, c.items-test.false)) c.items.invariant.so_far
