use Rattle.std.proofs.Common.{◌≡◌, ◌^◌, length}
use Rattle.def_plan.specs.Payoff.{leaf_sum}
use Rattle.xg_check.specs.Views.{AreAllWithin}
use Rattle.xg_check.proofs.ThreadSums.{AddsBelow}
use Rattle.xg_check.proofs.adding.add_leaves.Given as goal

abbrev pub invariant-loop-s : goal.invariant-loop-s
invariant-loop-s l = record {
  below : AddsBelow l.s l.initial.rows l.rows (leaf_sum l.player l.form.leaves l.against);
  small : AreAllWithin (2 ^ 119) l.rows;
  same : length l.rows ≡ length l.initial.rows;
}
