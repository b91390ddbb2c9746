use Rattle.std.proofs.Common.{◌≡◌, length}
use Rattle.xg_check.specs.ThreadSums.{HasSumsFrom}
use Rattle.xg_check.proofs.adding.sum_threads.Given as goal

abbrev pub invariant-loop-i : goal.invariant-loop-i
invariant-loop-i l = record {
  sums : HasSumsFrom l.i l.player l.form.leaves l.against l.sums;
  same : length l.sums ≡ length l.initial.sums;
}
