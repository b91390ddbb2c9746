use Rattle.std.proofs.Common.{[], ◌∷◌, sym, subst}
use Rattle.def_outside.specs.Sinks.{Writes}
use Rattle.def_canon.specs.Canon.{text_of_pieces}
use Rattle.xg_gen.specs.declared.items.Item.{Item}
use Rattle.xg_gen.specs.Items.{item_pieces}
use Rattle.xg_gen.proofs.Written.{quoted_token}
use Rattle.xg_gen.proofs.items.put_item.Goals as goal

pub returns-in-Line-clause-text : goal.returns-in-Line-clause-text
returns-in-Line-clause-text g c =
    let before = g.O.Sink.written c.args.out.now in
    let now = g.O.Sink.written c.put_quoted.new.out in
    subst (λ (item : Item). Writes before now (text_of_pieces (item_pieces item)) c.put_quoted.result) (sym c.in-Line.is)
    (quoted_token before now (10 ∷ []) c.in-Line.bytes.now c.put_quoted.result c.put_quoted.ensures.text)
