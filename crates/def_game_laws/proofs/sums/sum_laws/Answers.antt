use Rattle.def_sums.proofs.SumLaws.{sum_laws}
use Rattle.def_game_laws.proofs.sums.sum_laws.Goals as goal

pub returns : goal.returns
returns c = sum_laws
