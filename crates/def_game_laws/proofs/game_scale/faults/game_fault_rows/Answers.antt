use Rattle.std.proofs.Common.{refl}
use Rattle.def_fraction.specs.Divisors.{gcd}
use Rattle.def_fraction.specs.Fraction.{fraction_of}
use Rattle.def_game_laws.proofs.game_scale.faults.game_fault_rows.Goals as goal

pub returns : goal.returns
unfolding gcd fraction_of
returns c = record { sum = refl; negative = refl; decimals = refl; exact = refl; rare = refl; absent = refl; tosses = refl; inner = refl }
