-- The least and the greatest of some fractions have one value each.
use Rattle.std.proofs.Common.{List}
use Rattle.std.proofs.lemmas.List.Elements.{All-contains}
use Rattle.def_fraction.specs.Fraction.{Fraction}
use Rattle.def_payoffs.specs.Laws.{RangesHaveOneValue}
use Rattle.def_fraction.specs.Order.{IsAtMost}
use Rattle.def_payoffs.specs.Range.{IsGreatest, IsLeast}

-- the least is at most each of them
pub least_of : (fractions : List Fraction) (f g : Fraction) → IsLeast fractions f → IsLeast fractions g → IsAtMost f g
least_of fractions f g one other = All-contains (λ h. IsAtMost f h) fractions g one.above other.one_of_them

pub greatest_of : (fractions : List Fraction) (f g : Fraction) → IsGreatest fractions f → IsGreatest fractions g
    → IsAtMost f g
greatest_of fractions f g one other = All-contains (λ h. IsAtMost h g) fractions f other.below one.one_of_them

pub one_value : RangesHaveOneValue
one_value tables tree least greatest low high one other = (
  least_of _ least low one.least_is other.least_is,
  least_of _ low least other.least_is one.least_is,
  greatest_of _ greatest high one.greatest_is other.greatest_is,
  greatest_of _ high greatest other.greatest_is one.greatest_is,
  All-contains (λ g. IsAtMost least g) _ high one.least_is.above other.greatest_is.one_of_them,
)
