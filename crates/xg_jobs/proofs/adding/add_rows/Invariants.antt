use Rattle.std.proofs.Common.{◌≡◌, ℕ, ◌<◌, ◌≤◌, ◌+ℤ◌, map}
use Rattle.def_plan.specs.FormRows.{amount_of}
use Rattle.xg_jobs.proofs.adding.add_rows.Given as goal

-- the rows up to here have both amounts, and those from here on are as they were
abbrev pub invariant-loop-b : goal.invariant-loop-b
invariant-loop-b g l =
    ((t : ℕ) → t < l.b → amount_of (map g.R.Row.amount l.rows) t
    ≡ amount_of (map g.R.Row.amount l.initial.rows) t +ℤ amount_of (map g.R.Row.amount l.others) t)
    × ((t : ℕ) → l.b ≤ t → amount_of (map g.R.Row.amount l.rows) t ≡ amount_of (map g.R.Row.amount l.initial.rows) t)
