use Rattle.std.proofs.Common.{◌≡◌, ◌+◌, drop}
use Rattle.xg_io.proofs.KnownBytesInPieces.{Progress}
use Rattle.xg_batch.specs.Texts.{parts_bytes}
use Rattle.xg_batch.proofs.batch_text.write_parts.Given as goal

abbrev pub invariant-parts : goal.invariant-parts
invariant-parts g l = record {
  so_far : Progress (g.O.Sink.written l.fn.out) (g.O.Sink.written l.out) (parts_bytes 1 l.parts)
      (parts_bytes (l.i + 1) (drop l.i l.parts));
  blameless : g.O.Sink.faults l.out ≡ g.O.Sink.faults l.fn.out;
}
