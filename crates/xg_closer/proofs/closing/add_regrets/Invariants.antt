use Rattle.std.proofs.Common.{map}
use Rattle.xg_closer.proofs.Growing.{GrewFirst}
use Rattle.xg_closer.proofs.closing.add_regrets.Given as goal

abbrev pub invariant-loop-i : goal.invariant-loop-i
invariant-loop-i g l =
    GrewFirst l.fn.place.first l.i (map g.W.Worth.amount l.worths) l.fn.value (map g.R.Worth.amount l.initial.regrets) (map g.R.Worth.amount l.regrets)
