use Rattle.std.proofs.Common.{refl}
use Rattle.def_fraction.specs.Divisors.{gcd}
use Rattle.def_fraction.specs.Fraction.{fraction_of}
use Rattle.def_strategy_laws.proofs.sequence_form.examples.kuhn_rows.Goals as goal

pub returns : goal.returns
unfolding gcd fraction_of
returns c = record { leaves = refl; unit = refl; mass = refl; form = refl }
