use Rattle.def_tree.proofs.Lists.{tree_of_whole, whole_of_tree}
use Rattle.def_game_laws.proofs.tree.whole_iff_tree.Goals as goal

pub returns : goal.returns
returns c = λ nodes. (tree_of_whole nodes, whole_of_tree nodes)
