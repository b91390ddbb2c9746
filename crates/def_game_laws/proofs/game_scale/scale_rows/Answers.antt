use Rattle.std.proofs.Common.{refl}
use Rattle.def_fraction.specs.Divisors.{gcd}
use Rattle.def_fraction.specs.Fraction.{fraction_of}
use Rattle.def_game_laws.proofs.game_scale.scale_rows.Goals as goal

pub returns : goal.returns
unfolding gcd fraction_of
returns c = record {
  toss_sum = refl;
  toss_unit = refl;
  toss_weights = refl;
  toss_mass = refl;
  inner_sum = refl;
  inner_unit = refl;
  inner_weights = refl;
  inner_mass = refl;
  uneven_reaches = refl;
  uneven_ones = refl;
  uneven_twos = refl;
  uneven_sum = refl;
  uneven_unit = refl;
  uneven_weights = refl;
  uneven_mass = refl;
}
