use Rattle.std.proofs.Common.{◌≡◌, ◌+◌, drop}
use Rattle.def_cert_text.specs.Fields.{items_text}
use Rattle.def_cert_text.specs.Formats.{each_items}
use Rattle.def_cert_text.specs.CertText.{weights_line}
use Rattle.xg_io.proofs.KnownBytesInPieces.{Progress}
use Rattle.xg_cert.specs.Printed.{plan_in}
use Rattle.xg_cert.proofs.lists.put_weights.Given as goal

abbrev pub invariant-sets : goal.invariant-sets
invariant-sets g l = record {
  so_far : Progress (g.O.Sink.written l.fn.out) (g.O.Sink.written l.out)
      (items_text (each_items weights_line 1 (plan_in l.player (g.B.Bounds.printed l.bounds)).weights))
      (items_text (each_items weights_line (l.i + 1) (drop l.i (plan_in l.player (g.B.Bounds.printed l.bounds)).weights)));
  blameless : g.O.Sink.faults l.out ≡ g.O.Sink.faults l.fn.out;
}
