use Rattle.std.proofs.Common.{◌≡◌, ℕ, ◌<◌, length}
use Rattle.def_plan.specs.FormRows.{amount_of}
use Rattle.xg_closer.proofs.closing.copy_wide.Given as goal

abbrev pub invariant-loop-s : goal.invariant-loop-s
invariant-loop-s l = (length l.regrets ≡ length l.initial.regrets) × ((t : ℕ) → t < l.s → amount_of l.regrets t ≡ amount_of l.small_regrets t)
