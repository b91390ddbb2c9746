-- Which literal bytes are, what value it has, and which fault comes first where it has none.
use Rattle.std.specs.Prelude.{ℕ, ◌&&◌, ◌||◌, ◌==◌, nat_le, nat_lt, List, [], ◌∷◌, ◌++◌, length, Option, Some, None}
use Rattle.std.specs.Prelude.{Result, Ok, Err, if◌then◌else◌}
use Rattle.std.specs.Option.{option_map}
use Rattle.def_fraction.specs.declared.fault.NumberFault.{NumberFault}
use Rattle.def_fraction.specs.declared.fault.NumberFault.TheVariants.{Form, ZeroDenominator, Range}
use Rattle.def_fraction.specs.Digits.{is_numeral, number_of, leading_digits, after_digits}
use Rattle.def_fraction.specs.Fraction.{Fraction, fits, most}
use Rattle.def_fraction.specs.Literal.{plus, minus, point, slash, small_e, capital_e, Sign, no_sign, plus_sign}
use Rattle.def_fraction.specs.Literal.{minus_sign, Power, Body, quotient, decimal, Literal, digits_after, numerator}
use Rattle.def_fraction.specs.Literal.{denominator, exact_value, most_written}

abbrev pub sign_of : List ℕ → Sign
sign_of [] = no_sign
sign_of (byte ∷ bytes) = if byte == plus then plus_sign else (if byte == minus then minus_sign else no_sign)

abbrev pub after_sign : List ℕ → List ℕ
after_sign [] = []
after_sign (byte ∷ bytes) = if byte == plus then bytes else (if byte == minus then bytes else byte ∷ bytes)

-- the power that stands at the end of a decimal, or none at all
unfoldable pub power_of : List ℕ → Option (Option Power)
power_of [] = Some None
power_of (byte ∷ bytes) =
    let digits = after_sign bytes in
    if (byte == small_e || byte == capital_e) && (is_numeral digits && nat_le (length digits) 2)
    then Some (Some (record { letter = byte; sign = sign_of bytes; digits = digits }))
    else None

-- a decimal, from the digits of both sides of the point and what follows them
unfoldable pub decimal_of : List ℕ → Option (List ℕ) → List ℕ → Option Body
decimal_of before after rest =
    if nat_lt 0 (length (before ++ digits_after after)) then option_map (decimal before after) (power_of rest) else None

-- the literal without its sign, from the digits that it begins with and what follows them
unfoldable pub body_after : List ℕ → List ℕ → Option Body
body_after before [] = decimal_of before None []
body_after before (byte ∷ bytes) =
    if byte == slash then (if nat_lt 0 (length before) && is_numeral bytes then Some (quotient before bytes) else None)
    else (if byte == point then decimal_of before (Some (leading_digits bytes)) (after_digits bytes)
    else decimal_of before None (byte ∷ bytes))

unfoldable pub body_of : List ℕ → Option Body
body_of bytes = body_after (leading_digits bytes) (after_digits bytes)

-- the literal that the bytes are, if they are one
unfoldable pub literal_of : List ℕ → Option Literal
literal_of bytes = option_map (λ body. record { sign = sign_of bytes; body = body }) (body_of (after_sign bytes))

-- the fraction of a literal within the limits, and the first fault of any other
unfoldable pub value_of : Literal → Result Fraction NumberFault
value_of l =
    if denominator l.body == 0 then Err ZeroDenominator
    else (if nat_le (numerator l.body) most_written && nat_le (denominator l.body) most_written
    && fits (exact_value l) then Ok (exact_value l)
    else Err Range)

abbrev pub value_if : Option Literal → Result Fraction NumberFault
value_if None = Err Form
value_if (Some l) = value_of l

-- what reading bytes as a literal gives
unfoldable pub read_as_literal : List ℕ → Result Fraction NumberFault
read_as_literal bytes = value_if (literal_of bytes)

-- what reading bytes as a whole number gives
unfoldable pub read_as_whole : List ℕ → Result ℕ NumberFault
read_as_whole bytes =
    if is_numeral bytes then (if nat_le (number_of bytes) most then Ok (number_of bytes) else Err Range) else Err Form
