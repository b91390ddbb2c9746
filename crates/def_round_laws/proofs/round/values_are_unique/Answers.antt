use Rattle.def_round.proofs.Values.{values_are_unique}
use Rattle.def_round_laws.proofs.round.values_are_unique.Goals as goal

pub returns : goal.returns
returns c = values_are_unique
