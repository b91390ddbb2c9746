use Rattle.std.proofs.Common.{◌≡◌, length}
use Rattle.xg_io.proofs.KnownBytesInPieces.{Progress}
use Rattle.xg_base_tests.proofs.page_tests.LettersWritable.write.Given as goal

abbrev pub invariant-loop-rest : goal.invariant-loop-rest
invariant-loop-rest g l = record {
  so_far : Progress (g.O.Sink.written l.fn.out) (g.O.Sink.written l.out) l.fn.self.letters.now l.rest;
  blameless : g.O.Sink.faults l.out ≡ g.O.Sink.faults l.fn.out;
}

abbrev pub decreases-loop-rest : goal.decreases-loop-rest
decreases-loop-rest g l = length l.rest
