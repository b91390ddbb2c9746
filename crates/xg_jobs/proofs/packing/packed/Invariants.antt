use Rattle.std.proofs.Common.{◌≡◌, map, take}
use Rattle.xg_jobs.proofs.packing.packed.Given as goal

abbrev pub invariant-loop-e : goal.invariant-loop-e
invariant-loop-e g l = map g.F.GroupEntry.leaf l.packed.items ≡ map g.E.GroupEntry.leaf (take l.e-index l.entries)
