use Rattle.std.proofs.Common.{refl}
use Rattle.def_fraction.specs.Divisors.{gcd}
use Rattle.def_fraction.specs.Fraction.{fraction_of}
use Rattle.def_closing_games.proofs.promise_rows.Goals as goal

pub returns : goal.returns
unfolding gcd fraction_of
returns c = record {
  coin_range = refl;
  coin_one = refl;
  coin_two = refl;
  coin = refl;
  coin_of_units = refl;
  coin_plus = refl;
  toss_low = refl;
  toss_range = refl;
  toss_spreads = refl;
  toss = refl;
  toss_plus = refl;
  ways_high = refl;
  ways_one = refl;
  ways_two = refl;
  ways_width = refl;
  ways = refl;
  ways_of_units = refl;
  ways_plus = refl;
}
