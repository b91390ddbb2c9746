use Rattle.def_poker.proofs.Cards.{others_rise}
use Rattle.def_strategy_laws.proofs.poker.others_rise.Goals as goal

pub returns : goal.returns
returns c = others_rise
