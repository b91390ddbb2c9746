use Rattle.std.proofs.Common.{◌-◌}
use Rattle.xg_reply.proofs.FirstBest.{IsFirstBest}
use Rattle.xg_reply.proofs.sets.best_sequence.Given as goal
use Rattle.def_plan.specs.FormRows.{amount_of}

abbrev pub invariant-loop-s : goal.invariant-loop-s
invariant-loop-s l = IsFirstBest l.player (amount_of l.into.worths) l.first (l.s - l.first) l.best
