use Rattle.std.proofs.Common.{◌≡◌, drop}
use Rattle.def_cert_text.specs.Fields.{items_text}
use Rattle.xg_io.proofs.KnownBytesInPieces.{Progress}
use Rattle.xg_cert.specs.Items.{items_of}
use Rattle.xg_cert.proofs.items.put_items.Given as goal

abbrev pub invariant-items : goal.invariant-items
invariant-items g l = record {
  so_far : Progress (g.O.Sink.written l.fn.out) (g.O.Sink.written l.out) (items_text (items_of l.items))
      (items_text (items_of (drop l.i l.items)));
  blameless : g.O.Sink.faults l.out ≡ g.O.Sink.faults l.fn.out;
}
