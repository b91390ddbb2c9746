use Rattle.def_canon.proofs.Written.{poker_is_read_back}
use Rattle.def_game_laws.proofs.canon.poker.poker_is_read_back.Goals as goal

pub returns : goal.returns
returns c = poker_is_read_back
