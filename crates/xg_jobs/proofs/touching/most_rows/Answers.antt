use Rattle.std.proofs.Common.{ℕ, ◌<◌, length, sym, arith}
use Rattle.xg_jobs.proofs.TouchedJobs.{most_more}
use Rattle.xg_jobs.proofs.touching.most_rows.Goals as goal
use Rattle.xg_jobs.proofs.touching.most_rows.Goals.{then-len-most, else-len-most}

pub loop-job-preserved : goal.loop-job-preserved
loop-job-preserved c =
    let touched = c.args.touched.now in
    let k : ℕ = c.loop-job.job-index in
    let low : k < length touched = c.loop-job-test.true in
    let more = most_more touched k c.job-item.result low (sym c.job-item.is) in
    elim c.if-len-most.branch [ then-len-most w ↦ grind arith | else-len-most w ↦ grind arith ]
