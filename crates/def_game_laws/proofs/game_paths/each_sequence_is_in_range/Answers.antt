use Rattle.def_game_paths.proofs.Counts.{each_sequence_is_in_range as proved}
use Rattle.def_game_laws.proofs.game_paths.each_sequence_is_in_range.Goals as goal

pub returns : goal.returns
returns c = proved
