use Rattle.def_game_scale.proofs.Expected.{fractions-lowest}
use Rattle.def_game_laws.proofs.game_scale.all_are_fractions.Goals as goal

pub returns : goal.returns
returns c = fractions-lowest
