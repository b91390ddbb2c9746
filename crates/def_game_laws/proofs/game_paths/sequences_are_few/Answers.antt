use Rattle.def_game_paths.proofs.Counts.{sequences_are_few as proved}
use Rattle.def_game_laws.proofs.game_paths.sequences_are_few.Goals as goal

pub returns : goal.returns
returns c = proved
