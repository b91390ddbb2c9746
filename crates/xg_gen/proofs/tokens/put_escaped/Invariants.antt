use Rattle.std.proofs.Common.{◌≡◌, ◌≤◌, length}
use Rattle.def_file_tokens.specs.Texts.{escaped}
use Rattle.xg_io.proofs.KnownBytesInPieces.{Progress}
use Rattle.xg_gen.proofs.tokens.put_escaped.Given as goal

abbrev pub invariant-marks : goal.invariant-marks
invariant-marks g l = record {
  so_far : Progress (g.O.Sink.written l.fn.out) (g.O.Sink.written l.out) (escaped l.fn.bytes) (escaped l.rest);
  within : length l.rest ≤ length l.fn.bytes;
  blameless : g.O.Sink.faults l.out ≡ g.O.Sink.faults l.fn.out;
}

abbrev pub decreases-marks : goal.decreases-marks
decreases-marks g l = length l.rest
