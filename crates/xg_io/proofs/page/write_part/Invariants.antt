use Rattle.std.proofs.Common.{◌≡◌, ◌≤◌, ◌-◌, length, take}
use Rattle.std.specs.Io.KnownBytes.{append_known}
use Rattle.xg_io.proofs.page.write_part.Given as goal

abbrev pub invariant-loop-taken : goal.invariant-loop-taken
invariant-loop-taken g l = record {
  within : l.taken ≤ length l.part;
  appended : g.O.Sink.written l.sink ≡ append_known (g.O.Sink.written l.fn.sink) (take l.taken l.part);
  blameless : g.O.Sink.faults l.sink ≡ g.O.Sink.faults l.fn.sink;
}

abbrev pub decreases-loop-taken : goal.decreases-loop-taken
decreases-loop-taken g l = length l.part - l.taken
