use Rattle.std.proofs.Common.{refl}
use Rattle.def_fraction.specs.Divisors.{gcd}
use Rattle.def_fraction.specs.Fraction.{fraction_of}
use Rattle.def_payoffs.proofs.RowRange.{high_is_greatest, low_is_least}
use Rattle.def_game_laws.proofs.payoffs.payoff_rows.Goals as goal

pub returns : goal.returns
unfolding gcd fraction_of
returns c = record { payoffs = refl; range = record { least_is = low_is_least; greatest_is = high_is_greatest } }
