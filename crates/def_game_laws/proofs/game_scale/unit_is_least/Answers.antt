use Rattle.def_game_scale.proofs.Units.{unit_is_least as least_unit}
use Rattle.def_game_laws.proofs.game_scale.unit_is_least.Goals as goal

pub returns : goal.returns
returns c = least_unit
