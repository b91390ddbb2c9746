use Rattle.def_game_numbers.specs.Numbers.{tables_of}
use Rattle.xg_scale.specs.Chance.{PassedSets}
use Rattle.xg_scale.proofs.chance.check_by_nodes.Given as goal

abbrev pub invariant-loop-k : goal.invariant-loop-k
invariant-loop-k l = PassedSets l.test (tables_of l.game) l.game.tree l.k l.seen
