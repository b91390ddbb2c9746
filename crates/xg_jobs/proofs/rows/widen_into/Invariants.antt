use Rattle.std.proofs.Common.{◌≡◌, ℕ, ◌<◌, length}
use Rattle.def_plan.specs.FormRows.{amount_of}
use Rattle.xg_jobs.proofs.rows.widen_into.Given as goal

abbrev pub invariant-loop-s : goal.invariant-loop-s
invariant-loop-s l = (length l.amounts ≡ length l.initial.amounts) × ((t : ℕ) → t < l.s → amount_of l.amounts t ≡ amount_of l.small t)
