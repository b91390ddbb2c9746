use Rattle.std.proofs.Common.{◌≡◌, ℕ, ◌<◌, length, map}
use Rattle.xg_closer.specs.Rows.{own_amount}
use Rattle.xg_closer.proofs.closing.take_rows.Given as goal
use Rattle.def_plan.specs.FormRows.{amount_of}

abbrev pub invariant-loop-i : goal.invariant-loop-i
invariant-loop-i g l =
    (length l.worths ≡ length l.initial.worths)
    × ((s : ℕ) → s < l.i → amount_of l.worths s ≡ own_amount l.fn.player (map g.A.Worth.amount l.rows) s)
