use Rattle.std.proofs.Common.{◌≡◌, ℕ, ◌+ℤ◌, take, map}
use Rattle.def_plan.specs.FormRows.{amount_of}
use Rattle.xg_jobs.specs.Groups.{group_part}
use Rattle.xg_sides.proofs.alone.add_parts.Given as goal

-- each row has what the leaves up to here add to it
abbrev pub invariant-loop-e : goal.invariant-loop-e
invariant-loop-e g l = (b : ℕ) → amount_of (map g.R.Row.amount l.other) b
    ≡ amount_of (map g.R.Row.amount l.initial.other) b +ℤ group_part l.fn.number (take l.e-index (map g.E.GroupEntry.leaf l.group)) b
