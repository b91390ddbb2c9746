use Rattle.def_game_paths.proofs.Ancestors.{numbers_tell}
use Rattle.def_game_laws.proofs.game_paths.numbers_tell_choices.Goals as goal

pub returns : goal.returns
returns c = numbers_tell
