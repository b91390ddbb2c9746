use Rattle.xg_rowcore.specs.Chains.{AreChains}
use Rattle.xg_rowcore.proofs.chains.link_places.Given as goal

abbrev pub invariant-loop-i : goal.invariant-loop-i
invariant-loop-i l = AreChains l.i l.stripes l.rows l.first l.next
