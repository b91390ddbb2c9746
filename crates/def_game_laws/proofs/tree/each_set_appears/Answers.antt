use Rattle.def_tree.proofs.Sets.{each_set_appears as each_appears}
use Rattle.def_game_laws.proofs.tree.each_set_appears.Goals as goal

pub returns : goal.returns
returns c = each_appears
