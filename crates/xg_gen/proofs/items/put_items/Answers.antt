use Rattle.std.proofs.Common.{◌<◌, ◌∙◌, length, ap, subst, arith, rules}
use Rattle.std.specs.Io.KnownBytes.{append_known}
use Rattle.def_outside.specs.Sinks.{AppendsPrefix}
use Rattle.def_canon.specs.Canon.{text_of_pieces}
use Rattle.xg_gen.specs.declared.items.Item.{Item}
use Rattle.xg_gen.specs.Items.{item_pieces}
use Rattle.xg_gen.proofs.Written.{each_step, each_fail, each_end}
use Rattle.xg_gen.proofs.items.put_items.Goals as goal

pub returns-in_err-put_item-clause-text : goal.returns-in_err-put_item-clause-text
returns-in_err-put_item-clause-text g c =
    let low : c.items.i < length c.args.items.now = c.items-test.true in
    let fact = each_fail item_pieces _ (g.O.Sink.written c.items.out) _ c.args.items.now c.items.i _ low c.items.invariant.so_far
    (subst (λ (it : Item). AppendsPrefix (g.O.Sink.written c.items.out) (g.O.Sink.written c.put_item.new.out) (text_of_pieces (item_pieces it)))
    c.index-items-i.is c.in_err-put_item.ensures.text) in
    search (rules, fact)

pub items-preserved : goal.items-preserved
items-preserved g c =
    let low : c.items.i < length c.args.items.now = c.items-test.true in
    record {
      so_far = each_step item_pieces _ (g.O.Sink.written c.items.out) _ c.args.items.now c.items.i _ low c.items.invariant.so_far
          (c.in_ok-put_item.ensures.text
          ∙ ap (λ (it : Item). append_known (g.O.Sink.written c.items.out) (text_of_pieces (item_pieces it))) c.index-items-i.is);
      blameless = c.in_ok-put_item.ensures.cause ∙ c.items.invariant.blameless;
    }

pub returns-clause-text : goal.returns-clause-text
returns-clause-text g c = each_end item_pieces _ _ c.args.items.now c.items.i (omega (arith, c.items-test.false)) c.items.invariant.so_far
