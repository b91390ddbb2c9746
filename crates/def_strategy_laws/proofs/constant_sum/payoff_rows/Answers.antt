use Rattle.std.proofs.Common.{refl}
use Rattle.def_fraction.specs.Divisors.{gcd}
use Rattle.def_fraction.specs.Fraction.{fraction_of}
use Rattle.def_strategy_laws.proofs.constant_sum.payoff_rows.Goals as goal

pub returns : goal.returns
unfolding gcd fraction_of
returns c = record {
  coin_sum = refl;
  coin_probabilities = refl;
  coin_one = refl;
  coin_two = refl;
  uneven_probabilities = refl;
  uneven_one = refl;
  uneven_two = refl;
  uneven_sum = refl;
  uneven_rest = refl;
}
