use Rattle.def_game_scale.proofs.Running.{running}
use Rattle.def_game_laws.proofs.game_scale.numbers_run.Goals as goal

pub returns : goal.returns
returns c = running
