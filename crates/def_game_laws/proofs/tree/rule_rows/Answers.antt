use Rattle.def_tree.proofs.Rows.{rule_rows as proved}
use Rattle.def_game_laws.proofs.tree.rule_rows.Goals as goal

pub returns : goal.returns
returns c = proved
