use Rattle.def_fraction.proofs.FractionLemmas.{same_from_value}
use Rattle.def_game_laws.proofs.fraction.laws.value_tells_fraction.Goals as goal

pub returns : goal.returns
returns c = same_from_value
