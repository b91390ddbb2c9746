use Rattle.def_file_form.proofs.FileReadingIsExact.{game_taken}
use Rattle.def_game_laws.proofs.file_form.file_is_accepted.Goals as goal

pub returns : goal.returns
returns c = game_taken
