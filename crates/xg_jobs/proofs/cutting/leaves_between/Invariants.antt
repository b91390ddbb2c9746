use Rattle.std.proofs.Common.{◌≡◌, ◌+◌}
use Rattle.xg_jobs.specs.Cutting.{leaf_count_before}
use Rattle.xg_jobs.proofs.cutting.leaves_between.Given as goal

abbrev pub invariant-loop-k : goal.invariant-loop-k
invariant-loop-k l = leaf_count_before l.tree l.from + l.leaves ≡ leaf_count_before l.tree l.k
