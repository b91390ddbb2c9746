use Rattle.def_plus.proofs.Cuts.{cut_regrets_are_exact}
use Rattle.def_round_laws.proofs.plus.cut_regrets_are_exact.Goals as goal

pub returns : goal.returns
returns c = cut_regrets_are_exact
