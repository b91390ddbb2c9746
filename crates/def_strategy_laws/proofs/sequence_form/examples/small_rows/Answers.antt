use Rattle.std.proofs.Common.{refl}
use Rattle.def_fraction.specs.Divisors.{gcd}
use Rattle.def_fraction.specs.Fraction.{fraction_of}
use Rattle.def_strategy_laws.proofs.sequence_form.examples.small_rows.Goals as goal

pub returns : goal.returns
unfolding gcd fraction_of
returns c = record {
  pennies_form = refl;
  pennies_unit = refl;
  pennies_mass = refl;
  one_mover_form = refl;
  three_actions_sets = refl;
  three_actions_mass = refl;
}
