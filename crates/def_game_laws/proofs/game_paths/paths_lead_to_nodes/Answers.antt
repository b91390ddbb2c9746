use Rattle.def_game_paths.proofs.PathsToNodes.{paths_lead_to_nodes as proved}
use Rattle.def_game_laws.proofs.game_paths.paths_lead_to_nodes.Goals as goal

pub returns : goal.returns
returns c = proved
