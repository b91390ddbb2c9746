use Rattle.def_canon.proofs.PokerFileIsShort.{poker_is_short}
use Rattle.def_game_laws.proofs.canon.poker.poker_is_short.Goals as goal

pub returns : goal.returns
returns c = poker_is_short
