use Rattle.std.proofs.Common.{◌≡◌, map, take}
use Rattle.xg_touched.specs.Touched.{job_rows}
use Rattle.xg_jobs.specs.Ranges.{range_of}
use Rattle.xg_jobs.proofs.touching.touched_of.Given as goal

abbrev pub invariant-loop-range : goal.invariant-loop-range
invariant-loop-range l = l.touched.items ≡ map (job_rows l.form) (map range_of (take l.range-index l.ranges))
