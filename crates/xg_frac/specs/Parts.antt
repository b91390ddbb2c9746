-- What is kept of the two parts of a fraction.
use Rattle.std.specs.Prelude.{◌≤ℤ◌, ℤ, pos, unsigned_abs, IsTrue}
use Rattle.def_fraction.specs.Fraction.{Fraction, IsInLowestTerms, fits}

abbrev pub fraction_from : ℤ → ℤ → Fraction
fraction_from num den = record { num = num; den = unsigned_abs den }

pub record AreParts (num den : ℤ) : Type 0 where
  pub positive : pos 1 ≤ℤ den
  pub lowest : IsInLowestTerms (fraction_from num den)
  pub small : IsTrue (fits (fraction_from num den))
