use Rattle.std.proofs.Common.{◌≡◌, map, length}
use Rattle.xg_jobs.specs.Merging.{MergedUpto}
use Rattle.xg_jobs.proofs.merging.merged.Given as goal

abbrev pub invariant-loop-s : goal.invariant-loop-s
invariant-loop-s g l =
    MergedUpto l.s l.grouped.starts.items (map g.E.GroupEntry.leaf l.grouped.entries.items) l.starts (map g.E.GroupEntry.leaf l.entries)
    × (length l.places.items ≡ l.fn.others)
