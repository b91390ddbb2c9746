use Rattle.def_tree.proofs.Nesting.{leaves_each_once as proved}
use Rattle.def_game_laws.proofs.tree.leaves_each_once.Goals as goal

pub returns : goal.returns
returns c = proved
