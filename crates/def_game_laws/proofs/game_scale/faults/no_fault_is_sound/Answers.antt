use Rattle.def_game_scale.proofs.Sound.{sound}
use Rattle.def_game_laws.proofs.game_scale.faults.no_fault_is_sound.Goals as goal

pub returns : goal.returns
returns c = sound
