use Rattle.std.proofs.Common.{◌≡◌, ℕ, ◌+ℤ◌, take, map}
use Rattle.def_plan.specs.FormRows.{amount_of}
use Rattle.xg_jobs.specs.Groups.{group_part, group_sum}
use Rattle.xg_jobs.proofs.both.spread_group.Given as goal

-- the sum over the leaves up to here, and each row of player two has what these leaves add to it
abbrev pub invariant-loop-e : goal.invariant-loop-e
invariant-loop-e g l =
    (g.R.Row.amount l.sum ≡ group_sum l.two (take l.e-index (map g.E.GroupEntry.leaf l.group)))
    × ((b : ℕ) → amount_of (map g.R.Row.amount l.other) b
    ≡ amount_of (map g.R.Row.amount l.initial.other) b +ℤ group_part l.fn.number (take l.e-index (map g.E.GroupEntry.leaf l.group)) b)
