use Rattle.def_plus.proofs.WeightLaws.{rounds_weigh_their_numbers}
use Rattle.def_round_laws.proofs.plus.rounds_weigh_their_numbers.Goals as goal

pub returns : goal.returns
returns c = rounds_weigh_their_numbers
