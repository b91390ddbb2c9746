use Rattle.std.proofs.Common.{◌≡◌, ◌-◌, ◌≤◌}
use Rattle.std.specs.Prelude.{◌+ℤ◌}
use Rattle.def_plan.specs.Payoff.{leaf_sum}
use Rattle.def_plan.specs.Threads.{sequence_of_leaf}
use Rattle.xg_touched.specs.Threads.{leaves_after, thread_sum}
use Rattle.xg_touched.proofs.summing.thread_sum.Given as goal

abbrev pub invariant-thread : goal.invariant-thread
invariant-thread l = record {
  from_one : l.leaf ≤ l.z;
  within : l.z ≤ l.last;
  own : sequence_of_leaf l.player l.z l.form.leaves ≡ sequence_of_leaf l.player l.leaf l.form.leaves;
  sum : l.sum +ℤ leaf_sum l.player (leaves_after l.form.leaves l.z l.last) l.against (sequence_of_leaf l.player l.leaf l.form.leaves)
      ≡ thread_sum l.player l.form.leaves l.against l.leaf l.last;
}

abbrev pub decreases-thread : goal.decreases-thread
decreases-thread l = l.last - l.z
