use Rattle.std.proofs.Common.{◌≡◌, ℕ, ◌+ℤ◌, map}
use Rattle.def_plan.specs.FormRows.{amount_of}
use Rattle.xg_jobs.specs.Groups.{parts_sum}
use Rattle.xg_sides.proofs.alone.spread_groups.Given as goal

abbrev pub ghost-add_parts : goal.ghost-add_parts
ghost-add_parts g a = g.most

-- each row has the parts of the groups up to here
abbrev pub invariant-loop-s : goal.invariant-loop-s
invariant-loop-s g l = (b : ℕ) → amount_of (map g.R.Row.amount l.other) b
    ≡ amount_of (map g.R.Row.amount l.initial.other) b +ℤ parts_sum l.starts (map g.E.GroupEntry.leaf l.entries) l.one l.s b
