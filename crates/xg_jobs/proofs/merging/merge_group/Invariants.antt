use Rattle.std.proofs.Common.{length, map, take}
use Rattle.xg_jobs.specs.Merging.{TakesGroup, TellPlaces}
use Rattle.xg_jobs.proofs.merging.merge_group.Given as goal

abbrev pub invariant-loop-e : goal.invariant-loop-e
invariant-loop-e g l =
    TakesGroup (take l.e-index (map g.E.GroupEntry.leaf l.group)) (map g.E.GroupEntry.leaf l.initial.entries.items) (map g.E.GroupEntry.leaf l.entries.items)
    × TellPlaces (length l.initial.entries.items) l.places (map g.E.GroupEntry.leaf l.entries.items)
