use Rattle.def_tree.proofs.Linking.{link_rows as proved}
use Rattle.def_game_laws.proofs.tree.link_rows.Goals as goal

pub returns : goal.returns
returns c = proved
