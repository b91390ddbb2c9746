use Rattle.def_game_paths.proofs.Firsts.{firsts_are_first as proved}
use Rattle.def_game_laws.proofs.game_paths.firsts_are_first.Goals as goal

pub returns : goal.returns
returns c = proved
