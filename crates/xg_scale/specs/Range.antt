-- The range of the payoffs so far.
use Rattle.std.specs.Prelude.{◌≡◌, List, [], Option, Some, None}
use Rattle.def_fraction.specs.Fraction.{Fraction}
use Rattle.def_payoffs.specs.Range.{IsGreatest, IsLeast}
use Rattle.xg_scale.specs.declared.range.PayoffRange.{PayoffRange}

-- the least and the greatest of the payoffs, or nothing where there is none yet
abbrev pub IsRangeOf : List Fraction → Option PayoffRange → Type 0
IsRangeOf payoffs None = payoffs ≡ []
IsRangeOf payoffs (Some range) = IsLeast payoffs range.least × IsGreatest payoffs range.greatest
