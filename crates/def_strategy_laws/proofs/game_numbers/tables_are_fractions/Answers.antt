use Rattle.def_game_numbers.proofs.Fractions.{tables_lowest}
use Rattle.def_strategy_laws.proofs.game_numbers.tables_are_fractions.Goals as goal

pub returns : goal.returns
returns c = tables_lowest
