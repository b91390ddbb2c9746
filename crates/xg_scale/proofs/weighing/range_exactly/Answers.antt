use Rattle.std.proofs.Common.{subst}
use Rattle.def_game_numbers.specs.Numbers.{tables_of}
use Rattle.def_payoffs.specs.Range.{leaf_payoffs}
use Rattle.xg_scale.specs.Range.{IsRangeOf}
use Rattle.xg_scale.proofs.RangeFaults.{some_payoff}
use Rattle.xg_scale.proofs.weighing.range_exactly.Goals as goal

pub unreachable-requires : goal.unreachable-requires
unreachable-requires c =
    let game = c.args.game.now in
    some_payoff game c.tree-tree.ensures.whole
    (subst (IsRangeOf (leaf_payoffs (tables_of game) game.tree)) c.in-None.is c.in_ok-expected.ensures.ok.range)
