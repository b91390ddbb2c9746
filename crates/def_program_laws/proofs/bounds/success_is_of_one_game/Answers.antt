use Rattle.def_program_laws.proofs.Successes.{of_one_game}
use Rattle.def_program_laws.proofs.bounds.success_is_of_one_game.Goals as goal

pub returns : goal.returns
returns c = of_one_game
