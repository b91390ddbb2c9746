use Rattle.std.proofs.Common.{◌≡◌, ◌+◌, drop}
use Rattle.def_cert_text.specs.Fields.{items_text}
use Rattle.def_cert_text.specs.Formats.{each_items}
use Rattle.def_cert_text.specs.CertText.{value_line}
use Rattle.xg_io.proofs.KnownBytesInPieces.{Progress}
use Rattle.xg_cert.specs.Printed.{reply_in}
use Rattle.xg_cert.proofs.lists.put_values.Given as goal

abbrev pub invariant-sets : goal.invariant-sets
invariant-sets g l = record {
  so_far : Progress (g.O.Sink.written l.fn.out) (g.O.Sink.written l.out)
      (items_text (each_items value_line 1 (reply_in l.player (g.B.Bounds.printed l.bounds)).sets))
      (items_text (each_items value_line (l.i + 1) (drop l.i (reply_in l.player (g.B.Bounds.printed l.bounds)).sets)));
  blameless : g.O.Sink.faults l.out ≡ g.O.Sink.faults l.fn.out;
}
