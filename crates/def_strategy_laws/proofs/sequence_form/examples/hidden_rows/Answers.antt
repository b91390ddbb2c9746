use Rattle.std.proofs.Common.{refl}
use Rattle.def_fraction.specs.Divisors.{gcd}
use Rattle.def_fraction.specs.Fraction.{fraction_of}
use Rattle.def_strategy_laws.proofs.sequence_form.examples.hidden_rows.Goals as goal

pub returns : goal.returns
unfolding gcd fraction_of
returns c = record { unit = refl; mass = refl; mass_of_leaves = refl; form = refl }
