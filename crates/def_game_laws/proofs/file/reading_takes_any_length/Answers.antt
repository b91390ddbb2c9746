use Rattle.def_file.proofs.AnyLength.{game_any_length}
use Rattle.def_game_laws.proofs.file.reading_takes_any_length.Goals as goal

pub returns : goal.returns
returns c = game_any_length
