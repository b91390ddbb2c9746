use Rattle.std.proofs.Common.{refl}
use Rattle.def_fraction.specs.Divisors.{gcd}
use Rattle.def_fraction.specs.Fraction.{fraction_of}
use Rattle.def_program_laws.proofs.bounds.both_players_rows.Goals as goal

pub returns : goal.returns
unfolding gcd fraction_of
returns c = record {
  one = refl;
  two = refl;
  best_of_one = refl;
  two_gets = refl;
  two_gets_at_most = refl;
  apart = refl;
  gap = refl;
  gains = refl;
}
