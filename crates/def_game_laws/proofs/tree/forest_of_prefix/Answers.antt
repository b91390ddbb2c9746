use Rattle.def_tree.proofs.Forests.{forest_of-prefix_whole}
use Rattle.def_game_laws.proofs.tree.forest_of_prefix.Goals as goal

pub returns : goal.returns
returns c = forest_of-prefix_whole
