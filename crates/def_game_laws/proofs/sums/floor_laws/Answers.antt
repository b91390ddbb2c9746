use Rattle.def_sums.proofs.FloorLaws.{floor_laws}
use Rattle.def_game_laws.proofs.sums.floor_laws.Goals as goal

pub returns : goal.returns
returns c = floor_laws
