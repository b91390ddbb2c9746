use Rattle.def_game_paths.proofs.Breaks.{break_first}
use Rattle.def_game_laws.proofs.game_paths.break_is_first.Goals as goal

pub returns : goal.returns
returns c = break_first
