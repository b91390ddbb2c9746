use Rattle.std.proofs.Common.{ap, sym, ◌∙◌}
use Rattle.def_fraction.specs.Divisors.{gcd}
use Rattle.def_fraction.proofs.DivisorLemmas.{gcd-with_one}
use Rattle.xg_frac.proofs.fraction.greatest_common_divisor.Goals as goal

pub returns-then-b-eq1-clause-value : goal.returns-then-b-eq1-clause-value
returns-then-b-eq1-clause-value c = sym (ap (gcd c.args.a) c.if-b-eq1.true ∙ gcd-with_one c.args.a)
