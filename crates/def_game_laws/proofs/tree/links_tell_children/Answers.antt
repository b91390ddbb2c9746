use Rattle.def_tree.proofs.Linking.{links_tell_children as proved}
use Rattle.def_game_laws.proofs.tree.links_tell_children.Goals as goal

pub returns : goal.returns
returns c = proved
