use Rattle.def_fraction.proofs.FractionLemmas.{fraction_of-reduced}
use Rattle.def_game_laws.proofs.fraction.laws.fraction_is_reduced.Goals as goal

pub returns : goal.returns
returns c = fraction_of-reduced
