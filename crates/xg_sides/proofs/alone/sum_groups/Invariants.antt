use Rattle.std.proofs.Common.{◌≡◌, ℕ, ◌<◌, map}
use Rattle.def_plan.specs.FormRows.{amount_of}
use Rattle.xg_jobs.specs.Groups.{group_at, group_sum}
use Rattle.xg_sides.proofs.alone.sum_groups.Given as goal

abbrev pub ghost-sum_group : goal.ghost-sum_group
ghost-sum_group g a = g.most

-- each row up to here is its group's sum
abbrev pub invariant-loop-s : goal.invariant-loop-s
invariant-loop-s g l =
    (t : ℕ) → t < l.s
    → amount_of (map g.R.Row.amount l.own) t ≡ group_sum l.two (group_at l.starts (map g.E.GroupEntry.leaf l.entries) t)
