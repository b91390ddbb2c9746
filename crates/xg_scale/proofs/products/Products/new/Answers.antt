use Rattle.std.proofs.Common.{◌∙◌, ap, subst, sym}
use Rattle.def_fraction.specs.Fraction.{Fraction, IsInLowestTerms}
use Rattle.xg_scale.proofs.FractionParts.{one_times}
use Rattle.xg_scale.proofs.products.Products.new.Goals as goal

pub invariant_of-first : goal.invariant_of-first
invariant_of-first c =
    let one : Fraction = c.known-one.result in
    let is = c.known-one.ensures.same ∙ c.one_over.ensures in
    record {
      exact = sym (one_times one one (ap (λ (f : Fraction). f.num) is) (ap (λ (f : Fraction). f.den) is)
          (subst IsInLowestTerms (sym c.known-one.ensures.same) c.known-one.ensures.lowest));
    }
