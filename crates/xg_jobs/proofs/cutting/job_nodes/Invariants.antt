use Rattle.std.proofs.Common.{◌≤◌, length}
use Rattle.def_history.specs.Jobs.{jobs_within, most_jobs}
use Rattle.xg_jobs.specs.Cutting.{AreJobs}
use Rattle.xg_jobs.proofs.cutting.job_nodes.Given as goal

abbrev pub invariant-loop : goal.invariant-loop
invariant-loop l =
    (length l.jobs.items ≤ most_jobs) × AreJobs l.tree l.jobs.items (jobs_within most_jobs l.counter l.tree)
