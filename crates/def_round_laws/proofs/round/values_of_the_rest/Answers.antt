use Rattle.def_round.proofs.Values.{values_of_the_rest}
use Rattle.def_round_laws.proofs.round.values_of_the_rest.Goals as goal

pub returns : goal.returns
returns c = values_of_the_rest
