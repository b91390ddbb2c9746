use Rattle.def_game_paths.proofs.Numbers.{numbers_find_the_break as proved}
use Rattle.def_game_laws.proofs.game_paths.numbers_find_the_break.Goals as goal

pub returns : goal.returns
returns c = proved
