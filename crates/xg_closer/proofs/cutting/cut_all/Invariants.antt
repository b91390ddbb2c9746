use Rattle.std.proofs.Common.{map}
use Rattle.xg_closer.proofs.CutOneByOne.{IsCutUpTo}
use Rattle.xg_closer.proofs.cutting.cut_all.Given as goal

abbrev pub invariant-loop-s : goal.invariant-loop-s
invariant-loop-s g l = IsCutUpTo (map g.W.Worth.amount l.initial.worths) l.s (map g.W.Worth.amount l.worths)
