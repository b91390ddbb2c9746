use Rattle.std.proofs.Common.{◌≡◌, ◌+◌, ◌-◌, ◌≤◌, List, length}
use Rattle.def_tree.specs.Tree.{Forest}
use Rattle.def_history.specs.Jobs.{most_jobs}
use Rattle.xg_jobs.specs.Cutting.{AreJobs}
use Rattle.xg_jobs.proofs.OnePassOverJobs.{PassSome}
use Rattle.xg_jobs.proofs.cutting.make_pass.Given as goal

abbrev pub invariant-loop-job : goal.invariant-loop-job
invariant-loop-job l =
    (length l.after.items + (length l.jobs - l.job-index) ≡ l.count)
    × (l.count ≤ most_jobs)
    × ((now : List Forest) → AreJobs l.tree l.jobs now
    → PassSome l.tree l.jobs now l.after.items l.count l.cut l.job-index)
