use Rattle.def_plus.proofs.PlusRegrets.{plus_regrets_are_small}
use Rattle.def_round_laws.proofs.plus.plus_regrets_are_small.Goals as goal

pub returns : goal.returns
returns c = plus_regrets_are_small
