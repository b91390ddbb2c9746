use Rattle.xg_seq.proofs.LeafLemmas.{AreLeavesBefore}
use Rattle.xg_seq.proofs.leaves.leaves_of.Given as goal

abbrev pub invariant-loop-k : goal.invariant-loop-k
invariant-loop-k l = AreLeavesBefore l.tree l.weights l.k l.leaves.items
