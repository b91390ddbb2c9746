use Rattle.def_round.proofs.Values.{worths_need_later_sets}
use Rattle.def_round_laws.proofs.round.worths_need_later_sets.Goals as goal

pub returns : goal.returns
returns c = worths_need_later_sets
