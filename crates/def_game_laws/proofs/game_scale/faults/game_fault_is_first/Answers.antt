use Rattle.def_game_scale.proofs.First.{game_first}
use Rattle.def_game_laws.proofs.game_scale.faults.game_fault_is_first.Goals as goal

pub returns : goal.returns
returns c = game_first
