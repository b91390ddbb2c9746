use Rattle.std.proofs.Common.{◌≡◌, ℕ, ◌+◌, ◌^◌, ◌<◌, length, map, take, unsigned_abs}
use Rattle.def_sums.specs.Sum.{nat_sum_over}
use Rattle.xg_closer.specs.Rows.{own_amount}
use Rattle.xg_closer.proofs.closing.take_small_rows.Given as goal
use Rattle.def_plan.specs.FormRows.{amount_of}

abbrev pub invariant-loop-i : goal.invariant-loop-i
invariant-loop-i g l =
    (length l.worths ≡ length l.initial.worths)
    × (l.room + nat_sum_over unsigned_abs (take l.i (map g.A.Worth.amount l.rows)) ≡ 2 ^ 62)
    × ((s : ℕ) → s < l.i → amount_of l.worths s ≡ own_amount l.fn.player (map g.A.Worth.amount l.rows) s)
