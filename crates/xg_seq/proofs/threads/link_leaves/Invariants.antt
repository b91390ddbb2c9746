use Rattle.std.proofs.Common.{map}
use Rattle.xg_seq.specs.Leaves.{leaf_of}
use Rattle.xg_seq.specs.Threads.{LinksLeavesFrom}
use Rattle.xg_seq.proofs.threads.link_leaves.Given as goal

abbrev pub invariant-loop-i : goal.invariant-loop-i
invariant-loop-i l = LinksLeavesFrom l.i l.player (map leaf_of l.leaves) l.first l.next
