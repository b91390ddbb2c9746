use Rattle.def_game_paths.proofs.Visits.{own_choices_are_moves as proved}
use Rattle.def_game_laws.proofs.game_paths.own_choices_are_moves.Goals as goal

pub returns : goal.returns
returns c = proved
