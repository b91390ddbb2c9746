use Rattle.def_file_form.proofs.WholeGames.{stands_for_whole_game}
use Rattle.def_game_laws.proofs.file_form.stands_for_whole_game.Goals as goal

pub returns : goal.returns
returns c = stands_for_whole_game
