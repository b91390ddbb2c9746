use Rattle.std.proofs.Common.{◌≤◌}
use Rattle.xg_jobs.proofs.sharing.begin_of_last.Given as goal

abbrev pub invariant-loop-step : goal.invariant-loop-step
invariant-loop-step l = (l.low ≤ l.high) × (l.high ≤ l.fn.groups)
