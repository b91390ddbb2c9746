use Rattle.def_sums.proofs.SumLaws.{size_laws}
use Rattle.def_game_laws.proofs.sums.size_laws.Goals as goal

pub returns : goal.returns
returns c = size_laws
