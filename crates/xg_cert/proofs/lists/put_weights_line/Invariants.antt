use Rattle.std.proofs.Common.{◌≡◌, drop}
use Rattle.def_cert_text.specs.Fields.{items_text}
use Rattle.def_cert_text.specs.Formats.{row_items, text_of}
use Rattle.def_cert_text.specs.CertText.{weights_line}
use Rattle.xg_io.proofs.KnownBytesInPieces.{Progress}
use Rattle.xg_cert.proofs.lists.put_weights_line.Given as goal

abbrev pub invariant-numbers : goal.invariant-numbers
invariant-numbers g l = record {
  so_far : Progress (g.O.Sink.written l.fn.out) (g.O.Sink.written l.out) (text_of (weights_line l.set) l.numbers)
      (items_text (row_items (drop l.i l.numbers)));
  blameless : g.O.Sink.faults l.out ≡ g.O.Sink.faults l.fn.out;
}
