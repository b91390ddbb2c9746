use Rattle.std.proofs.Common.{◌≡◌, take}
use Rattle.xg_jobs.specs.Table.{most_touched}
use Rattle.xg_jobs.proofs.touching.most_rows.Given as goal

abbrev pub invariant-loop-job : goal.invariant-loop-job
invariant-loop-job l = l.most ≡ most_touched (take l.job-index l.touched)
