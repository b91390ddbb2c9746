use Rattle.def_game_scale.proofs.First.{number_first}
use Rattle.def_game_laws.proofs.game_scale.faults.number_fault_is_first.Goals as goal

pub returns : goal.returns
returns c = number_first
