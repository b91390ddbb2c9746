use Rattle.def_game_paths.proofs.PathsToNodes.{paths_are_depths as proved}
use Rattle.def_game_laws.proofs.game_paths.paths_are_depths.Goals as goal

pub returns : goal.returns
returns c = proved
