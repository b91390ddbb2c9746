use Rattle.def_poker.proofs.Cards.{higher_card_wins}
use Rattle.def_strategy_laws.proofs.poker.higher_card_wins.Goals as goal

pub returns : goal.returns
returns c = higher_card_wins
