use Rattle.def_poker.proofs.Faultless.{poker_has_no_fault}
use Rattle.def_strategy_laws.proofs.poker.poker_has_no_fault.Goals as goal

pub returns : goal.returns
returns c = poker_has_no_fault
