use Rattle.std.proofs.Common.{◌≡◌, ℕ, ◌<◌, ◌+ℤ◌, map}
use Rattle.def_plan.specs.FormRows.{amount_of}
use Rattle.xg_jobs.specs.Groups.{group_at, group_sum, parts_sum}
use Rattle.xg_jobs.proofs.both.both_rows.Given as goal

abbrev pub ghost-add_group : goal.ghost-add_group
ghost-add_group g a = g.most

-- each row of player one up to here is its group's sum, and each row of player two has the parts of the groups up to here
abbrev pub invariant-loop-s : goal.invariant-loop-s
invariant-loop-s g l =
    ((t : ℕ) → t < l.s
    → amount_of (map g.R.Row.amount l.own) t ≡ group_sum l.two (group_at l.starts (map g.E.GroupEntry.leaf l.entries) t))
    × ((b : ℕ) → amount_of (map g.R.Row.amount l.other) b
    ≡ amount_of (map g.R.Row.amount l.initial.other) b +ℤ parts_sum l.starts (map g.E.GroupEntry.leaf l.entries) l.one l.s b)
