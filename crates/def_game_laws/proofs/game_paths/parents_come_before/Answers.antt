use Rattle.def_game_paths.proofs.Ancestors.{parents_come_before as proved}
use Rattle.def_game_laws.proofs.game_paths.parents_come_before.Goals as goal

pub returns : goal.returns
returns c = proved
