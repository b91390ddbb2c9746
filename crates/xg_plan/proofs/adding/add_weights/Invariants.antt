use Rattle.xg_plan.proofs.AddLemmas.{IsAddedUpTo}
use Rattle.xg_plan.proofs.adding.add_weights.Given as goal

abbrev pub invariant-loop-s : goal.invariant-loop-s
invariant-loop-s l = IsAddedUpTo l.initial.weights l.others l.times l.s l.weights
