use Rattle.def_game_numbers.specs.Numbers.{tables_of}
use Rattle.xg_scale.specs.Weighed.{HasWeighed}
use Rattle.xg_scale.proofs.weights.weigh_leaves.Given as goal

abbrev pub invariant-loop-k : goal.invariant-loop-k
invariant-loop-k l = HasWeighed (tables_of l.game) l.game.tree l.expected.unit l.k l.weighed
