use Rattle.std.proofs.Common.{refl}
use Rattle.def_fraction.specs.Divisors.{gcd}
use Rattle.def_fraction.specs.Fraction.{fraction_of}
use Rattle.def_strategy_laws.proofs.game_numbers.file_rows.Goals as goal

pub returns : goal.returns
unfolding gcd fraction_of
returns c = record {
  negative = refl;
  sum = refl;
  another_sum = refl;
  whole_sum = refl;
  scale = refl;
  weights = refl;
  weights_of_sum = refl;
  recall = refl;
  recall_weighed = refl;
  recall_broken = refl;
  sets = refl;
}
