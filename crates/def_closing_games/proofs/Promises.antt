-- What is promised of the game of a file is kept by both variants of rounds.
use Rattle.def_plus.specs.declared.Variant.TheVariants.{Plain, Plus}
use Rattle.def_game_numbers.specs.Numbers.{tables_of}
use Rattle.def_constant_sum.proofs.Faultless.{faultless}
use Rattle.def_closing_games.specs.Range.{least_payoff, greatest_payoff, payoff_range}
use Rattle.def_closing_games.specs.Laws.{PromisesAreKept}
use Rattle.def_closing_games.proofs.Payoffs.{payoffs_are_in_range}
use Rattle.def_closing_games.proofs.Printed.{printed_brackets_close, printed_plus_brackets_close}

pub promises_are_kept : PromisesAreKept
promises_are_kept Plain game root every last ends whole fractions none some some_round are =
    let tables = tables_of game in
    let is = payoffs_are_in_range tables game.tree (faultless game whole fractions none).complete in
    printed_brackets_close game (least_payoff tables game.tree) (greatest_payoff tables game.tree)
    (payoff_range tables game.tree) root every last ends whole fractions none is.0 is.1 some some_round are
promises_are_kept Plus game root every last ends whole fractions none some some_round are =
    let tables = tables_of game in
    let is = payoffs_are_in_range tables game.tree (faultless game whole fractions none).complete in
    printed_plus_brackets_close game (least_payoff tables game.tree) (greatest_payoff tables game.tree)
    (payoff_range tables game.tree) root every last ends whole fractions none is.0 is.1 some some_round are
