-- The canonical decimal text of numbers: no leading zero, no `+`, and `-` only before a number that isn't 0.
use Rattle.std.specs.Prelude.{ℕ, List, ◌∷◌, ◌++◌, ℤ, ◌==◌, if◌then◌else◌}
use Rattle.std.specs.Fmt.{decimal, signed_decimal}
use Rattle.def_fraction.specs.Fraction.{Fraction}
use Rattle.def_fraction.specs.Literal.{slash}

abbrev pub int_text : ℤ → List ℕ
int_text n = signed_decimal n

-- the numerator alone where the denominator is 1, else numerator, `/`, denominator
abbrev pub fraction_text : Fraction → List ℕ
fraction_text f = if f.den == 1 then int_text f.num else int_text f.num ++ slash ∷ decimal f.den
