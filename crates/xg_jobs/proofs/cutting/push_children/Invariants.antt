use Rattle.std.proofs.Common.{◌≡◌, ◌+◌, ◌-◌, ◌++◌, ℕ, length, take, slice_get}
use Rattle.def_tree.specs.Links.{children_of}
use Rattle.xg_jobs.proofs.cutting.push_children.Given as goal

-- so many children are put, and the next one comes behind them
abbrev pub invariant-loop-next : goal.invariant-loop-next
invariant-loop-next l =
    (put : ℕ)
    × (l.jobs.items ≡ l.initial.jobs.items ++ take put (children_of l.tree l.k))
    × (l.next ≡ slice_get (children_of l.tree l.k) put)

abbrev pub decreases-loop-next : goal.decreases-loop-next
decreases-loop-next l = length l.initial.jobs.items + length (children_of l.tree l.k) - length l.jobs.items
