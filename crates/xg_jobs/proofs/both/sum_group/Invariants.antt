use Rattle.std.proofs.Common.{◌≡◌, take, map}
use Rattle.xg_jobs.specs.Groups.{group_sum}
use Rattle.xg_jobs.proofs.both.sum_group.Given as goal

abbrev pub invariant-loop-e : goal.invariant-loop-e
invariant-loop-e g l = g.R.Row.amount l.sum ≡ group_sum l.two (take l.e-index (map g.E.GroupEntry.leaf l.group))
