use Rattle.def_game_paths.proofs.Numbers.{numbers_are_known_on_the_way as proved}
use Rattle.def_game_laws.proofs.game_paths.numbers_are_known_on_the_way.Goals as goal

pub returns : goal.returns
returns c = proved
