use Rattle.std.proofs.Common.{ap, ◌∙◌, arith}
use Rattle.std.proofs.lemmas.Int.{ints}
use Rattle.def_fraction.specs.Fraction.{fraction_of}
use Rattle.xg_frac.proofs.PartLemmas.{fraction_of-whole, ok_if-at}
use Rattle.xg_frac.proofs.fraction.whole.Goals as goal

pub returns : goal.returns
returns c =
    ok_if-at _ _ _ (ap (λ n. fraction_of n 1) (omega (arith, ints)) ∙ fraction_of-whole c.args.n) c.in_lowest_terms.ensures
