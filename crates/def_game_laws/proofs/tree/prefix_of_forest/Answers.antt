use Rattle.def_tree.proofs.Forests.{prefix-forest_of}
use Rattle.def_game_laws.proofs.tree.prefix_of_forest.Goals as goal

pub returns : goal.returns
returns c = prefix-forest_of
