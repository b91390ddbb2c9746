use Rattle.std.proofs.Common.{◌≡◌, ◌≤◌}
use Rattle.def_progress.specs.Decimals.{last_digits}
use Rattle.xg_io.proofs.KnownBytesInPieces.{Progress}
use Rattle.xg_close_lines.proofs.decimals.put_last_digits.Given as goal

abbrev pub invariant-loop-left : goal.invariant-loop-left
invariant-loop-left g l = record {
  so_far : Progress (g.O.Sink.written l.fn.out) (g.O.Sink.written l.out) (last_digits l.places l.number) (last_digits l.left l.number);
  blameless : g.O.Sink.faults l.out ≡ g.O.Sink.faults l.fn.out;
  few : l.left ≤ l.places;
}

abbrev pub decreases-loop-left : goal.decreases-loop-left
decreases-loop-left g l = l.left
