use Rattle.def_game_paths.proofs.Choices.{sequences_name_choices as proved}
use Rattle.def_game_laws.proofs.game_paths.sequences_name_choices.Goals as goal

pub returns : goal.returns
returns c = proved
