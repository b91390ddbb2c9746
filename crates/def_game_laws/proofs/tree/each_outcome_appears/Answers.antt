use Rattle.def_tree.proofs.Outcomes.{each_outcome_appears as appears}
use Rattle.def_game_laws.proofs.tree.each_outcome_appears.Goals as goal

pub returns : goal.returns
returns c = appears
