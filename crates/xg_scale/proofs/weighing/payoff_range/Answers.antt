use Rattle.def_game_numbers.proofs.Fractions.{tables_lowest}
use Rattle.xg_scale.proofs.RangeFaults.{range_refused}
use Rattle.xg_scale.proofs.weighing.payoff_range.Goals as goal

pub returns-clause-faultless : goal.returns-clause-faultless
returns-clause-faultless c =
    range_refused c.args.game.now c.range_exactly.result (tables_lowest c.args.game.now c.numbers_are_in_lowest_terms.ensures) c.range_exactly.ensures.refused

pub range_exactly-requires : goal.range_exactly-requires
range_exactly-requires c = tables_lowest c.args.game.now c.numbers_are_in_lowest_terms.ensures
