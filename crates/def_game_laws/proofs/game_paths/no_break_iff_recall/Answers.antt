use Rattle.def_game_paths.proofs.Breaks.{none_of_recall, recall_of_none}
use Rattle.def_game_laws.proofs.game_paths.no_break_iff_recall.Goals as goal

pub returns : goal.returns
returns c = λ tree. (recall_of_none tree, none_of_recall tree)
