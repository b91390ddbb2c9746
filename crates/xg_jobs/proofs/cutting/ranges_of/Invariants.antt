use Rattle.xg_jobs.proofs.Ranging.{RangedSome}
use Rattle.xg_jobs.proofs.cutting.ranges_of.Given as goal

abbrev pub invariant-loop-i : goal.invariant-loop-i
invariant-loop-i l = RangedSome l.tree l.jobs.items l.ranges.items l.first l.i
