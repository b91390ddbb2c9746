use Rattle.def_file_form.proofs.FileReadingIsExact.{game_read}
use Rattle.def_game_laws.proofs.file_form.accepted_is_file.Goals as goal

pub returns : goal.returns
returns c = game_read
