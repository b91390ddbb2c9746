-- Numbers as fields: no leading zero, no `+`, and `-` only before a number that isn't 0.
use Rattle.std.specs.Prelude.{ℕ, Bool, true, ◌==◌, ◌&&◌, not, nat_le, List, [], ◌∷◌, take, drop, Option, Some, None, ℤ}
use Rattle.std.specs.Prelude.{pos, unsigned_abs, if◌then◌else◌}
use Rattle.std.specs.List.{prefix_len}
use Rattle.std.specs.Option.{option_map}
use Rattle.def_fraction.specs.Digits.{is_numeral, number_of}
use Rattle.def_fraction.specs.Divisors.{gcd}
use Rattle.def_fraction.specs.Fraction.{Fraction, negative_of, whole_number, is_zero}
use Rattle.def_fraction.specs.Literal.{minus, slash}

abbrev pub zero_digit : ℕ
zero_digit = 48

abbrev pub leads_no_zero : List ℕ → Bool
leads_no_zero [] = true
leads_no_zero (d ∷ []) = true
leads_no_zero (d ∷ e ∷ ds) = not (d == zero_digit)

-- a whole number of this range
unfoldable pub whole_in : ℕ → ℕ → List ℕ → Option ℕ
whole_in low high field =
    if is_numeral field && (leads_no_zero field && (nat_le low (number_of field) && nat_le (number_of field) high))
    then Some (number_of field) else None

-- a number of this size at most, with a sign where it is below 0
unfoldable pub integer_in : ℕ → List ℕ → Option ℤ
integer_in most [] = None
integer_in most (b ∷ ds) = if b == minus then option_map negative_of (whole_in 1 most ds) else option_map
    (λ (n : ℕ). pos n) (whole_in 0 most (b ∷ ds))

abbrev pub is_no_slash : ℕ → Bool
is_no_slash byte = not (byte == slash)

-- num / den, where that is in lowest terms
abbrev pub over_in : ℤ → Option ℕ → Option Fraction
over_in num None = None
over_in num (Some den) = if gcd (unsigned_abs num) den == 1 then Some (record { num = num; den = den }) else None

-- from the numerator, and the slash and the denominator behind it
abbrev pub lowest_in : ℕ → Option ℤ → List ℕ → Option Fraction
lowest_in most None behind = None
lowest_in most (Some num) [] = Some (whole_number num)
lowest_in most (Some num) (b ∷ ds) = over_in num (whole_in 2 most ds)

-- a fraction in lowest terms whose parts are of this size at most: num alone, or num/den where den is 2 at least
unfoldable pub fraction_in : ℕ → List ℕ → Option Fraction
fraction_in most field = lowest_in most (integer_in most (take (prefix_len is_no_slash field) field))
    (drop (prefix_len is_no_slash field) field)

abbrev pub unless_zero : Option Fraction → Option Fraction
unless_zero None = None
unless_zero (Some f) = if is_zero f then None else Some f

-- such a fraction that isn't 0
unfoldable pub nonzero_in : ℕ → List ℕ → Option Fraction
nonzero_in most field = unless_zero (fraction_in most field)
