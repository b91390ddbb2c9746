use Rattle.def_plus.proofs.PlusRegrets.{plus_regrets_are_not_negative}
use Rattle.def_round_laws.proofs.plus.plus_regrets_are_not_negative.Goals as goal

pub returns : goal.returns
returns c = plus_regrets_are_not_negative
