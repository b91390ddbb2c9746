use Rattle.std.proofs.Common.{◌≡◌, drop}
use Rattle.def_canon.specs.Canon.{each, text_of_pieces}
use Rattle.xg_io.proofs.KnownBytesInPieces.{Progress}
use Rattle.xg_gen.specs.Items.{item_pieces}
use Rattle.xg_gen.proofs.items.put_items.Given as goal

abbrev pub invariant-items : goal.invariant-items
invariant-items g l = record {
  so_far : Progress (g.O.Sink.written l.fn.out) (g.O.Sink.written l.out) (text_of_pieces (each item_pieces l.items))
      (text_of_pieces (each item_pieces (drop l.i l.items)));
  blameless : g.O.Sink.faults l.out ≡ g.O.Sink.faults l.fn.out;
}
