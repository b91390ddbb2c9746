use Rattle.std.proofs.Common.{◌≡◌, ℕ, ◌<◌, pos, map}
use Rattle.def_plan.specs.FormRows.{amount_of}
use Rattle.xg_jobs.proofs.adding.clear.Given as goal

-- the rows up to here have the amount 0
abbrev pub invariant-loop-b : goal.invariant-loop-b
invariant-loop-b g l = (t : ℕ) → t < l.b → amount_of (map g.R.Row.amount l.rows) t ≡ pos 0
