use Rattle.def_game_numbers.proofs.Refusals.{stands_on_answers}
use Rattle.def_strategy_laws.proofs.game_numbers.form_stands_on_answers.Goals as goal

pub returns : goal.returns
returns c = stands_on_answers
