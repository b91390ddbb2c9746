use Rattle.def_fraction.proofs.DivisorLemmas.{IsGcd-gcd}
use Rattle.def_game_laws.proofs.fraction.laws.gcd_is_greatest.Goals as goal

pub returns : goal.returns
returns c = IsGcd-gcd
