use Rattle.def_canon.proofs.ReadBack.{canon_stands_for_game}
use Rattle.def_game_laws.proofs.canon.canon_stands_for_game.Goals as goal

pub returns : goal.returns
returns c = canon_stands_for_game
