-- The order of the values of fractions, and what is between two.
--     IsAtMost f g        the value of f is at most that of g
--     difference_of f g   f less g
use Rattle.std.specs.Prelude.{pos, neg_ℤ, ◌*ℤ◌, ◌≤ℤ◌}
use Rattle.def_fraction.specs.Fraction.{Fraction, over, sum_of}

abbrev pub IsAtMost : Fraction → Fraction → Type 0
IsAtMost f g = (f.num *ℤ pos g.den) ≤ℤ (g.num *ℤ pos f.den)

abbrev pub difference_of : Fraction → Fraction → Fraction
difference_of f g = sum_of f (over (neg_ℤ g.num) g.den)
