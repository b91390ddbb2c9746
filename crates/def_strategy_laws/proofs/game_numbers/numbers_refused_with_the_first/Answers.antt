use Rattle.def_game_numbers.proofs.Refusals.{refused_first}
use Rattle.def_strategy_laws.proofs.game_numbers.numbers_refused_with_the_first.Goals as goal

pub returns : goal.returns
returns c = refused_first
