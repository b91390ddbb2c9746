-- What is kept of the two parts of a fraction with large parts.
use Rattle.std.specs.Prelude.{◌≤◌, ◌≤ℤ◌, ℤ, pos, unsigned_abs}
use Rattle.def_fraction.specs.Fraction.{IsInLowestTerms, most_wide}
use Rattle.xg_frac.specs.Parts.{fraction_from}

pub record AreWideParts (num den : ℤ) : Type 0 where
  pub positive : pos 1 ≤ℤ den
  pub lowest : IsInLowestTerms (fraction_from num den)
  pub num_small : unsigned_abs num ≤ most_wide
  pub den_small : unsigned_abs den ≤ most_wide
