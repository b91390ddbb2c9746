use Rattle.def_poker.proofs.Cards.{titles_name_cards}
use Rattle.def_strategy_laws.proofs.poker.titles_name_cards.Goals as goal

pub returns : goal.returns
returns c = titles_name_cards
