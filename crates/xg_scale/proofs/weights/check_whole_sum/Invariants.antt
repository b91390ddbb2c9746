use Rattle.std.specs.Prelude.{unsigned_abs}
use Rattle.def_game_numbers.specs.Numbers.{tables_of}
use Rattle.def_game_scale.specs.Scale.{whole_sum}
use Rattle.xg_scale.specs.Weighed.{PassedWholeSum}
use Rattle.xg_scale.proofs.weights.check_whole_sum.Given as goal

abbrev pub invariant-loop-k : goal.invariant-loop-k
invariant-loop-k l = PassedWholeSum l.game.tree (unsigned_abs (whole_sum (tables_of l.game) l.game.tree)) l.k
