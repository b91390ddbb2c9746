use Rattle.def_canon.proofs.PokerSizes.{poker_is_game}
use Rattle.def_game_laws.proofs.canon.poker.poker_is_game.Goals as goal

pub returns : goal.returns
returns c = poker_is_game
