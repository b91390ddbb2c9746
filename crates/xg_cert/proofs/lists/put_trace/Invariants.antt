use Rattle.std.proofs.Common.{◌≡◌, ◌+◌, drop}
use Rattle.def_cert_text.specs.Fields.{items_text}
use Rattle.def_cert_text.specs.Formats.{each_items}
use Rattle.def_cert_text.specs.CertText.{line_of_round}
use Rattle.xg_io.proofs.KnownBytesInPieces.{Progress}
use Rattle.xg_cert.proofs.lists.put_trace.Given as goal

abbrev pub invariant-rows : goal.invariant-rows
invariant-rows g l = record {
  so_far : Progress (g.O.Sink.written l.fn.out) (g.O.Sink.written l.out)
      (items_text (each_items line_of_round 1 l.rows))
      (items_text (each_items line_of_round (l.i + 1) (drop l.i l.rows)));
  blameless : g.O.Sink.faults l.out ≡ g.O.Sink.faults l.fn.out;
}
