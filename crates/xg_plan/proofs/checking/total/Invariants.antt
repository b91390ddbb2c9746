use Rattle.std.proofs.Common.{◌≡◌, ◌*◌, ◌≤◌, ◌^◌}
use Rattle.def_round.specs.Shares.{prefix_sum}
use Rattle.xg_plan.proofs.checking.total.Given as goal

abbrev pub invariant-loop-weight : goal.invariant-loop-weight
invariant-loop-weight l = (l.sum ≡ prefix_sum l.weights l.weight-index) × (l.sum ≤ l.weight-index * 2 ^ 64)
