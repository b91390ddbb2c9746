use Rattle.def_round.proofs.OwnSums.{rounds_need_own_sums}
use Rattle.def_round_laws.proofs.round.rounds_need_own_sums.Goals as goal

pub returns : goal.returns
returns c = rounds_need_own_sums
