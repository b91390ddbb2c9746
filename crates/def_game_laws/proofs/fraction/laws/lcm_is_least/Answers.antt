use Rattle.def_fraction.proofs.DivisorLemmas.{IsLcm-lcm}
use Rattle.def_game_laws.proofs.fraction.laws.lcm_is_least.Goals as goal

pub returns : goal.returns
returns c = IsLcm-lcm
