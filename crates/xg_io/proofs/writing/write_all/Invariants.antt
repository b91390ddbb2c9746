use Rattle.std.proofs.Common.{◌≡◌, length}
use Rattle.xg_io.proofs.KnownBytesInPieces.{Progress}
use Rattle.xg_io.proofs.writing.write_all.Given as goal

abbrev pub invariant-loop-rest : goal.invariant-loop-rest
invariant-loop-rest g l = record {
  so_far : Progress (g.O.Sink.written l.fn.sink) (g.O.Sink.written l.sink) l.bytes l.rest;
  blameless : g.O.Sink.faults l.sink ≡ g.O.Sink.faults l.fn.sink;
}

abbrev pub decreases-loop-rest : goal.decreases-loop-rest
decreases-loop-rest g l = length l.rest
