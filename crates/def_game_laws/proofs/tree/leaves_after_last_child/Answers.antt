use Rattle.def_tree.proofs.Nesting.{leaves_after_last_child as proved}
use Rattle.def_game_laws.proofs.tree.leaves_after_last_child.Goals as goal

pub returns : goal.returns
returns c = proved
