use Rattle.std.proofs.Common.{take, All}
use Rattle.xg_jobs.proofs.packing.have_room.Given as goal

abbrev pub invariant-loop-e : goal.invariant-loop-e
invariant-loop-e g l = All (λ e. g.F.GroupEntry.has_room (g.E.GroupEntry.leaf e)) (take l.e-index l.entries)
