-- Numbers in decimal digits, as in Gambit's .efg files. A text is a list of bytes.
use Rattle.std.specs.Prelude.{ℕ, ◌+◌, ◌-◌, ◌*◌, ◌^◌, Bool, ◌&&◌, nat_lt, List, [], ◌∷◌, length, if◌then◌else◌}
use Rattle.std.specs.Char.{is_ascii_digit}
use Rattle.std.specs.Str.{all_ascii_digits}

-- each byte is one of `0` to `9`, and there is at least one
abbrev pub is_numeral : List ℕ → Bool
is_numeral digits = all_ascii_digits digits && nat_lt 0 (length digits)

-- the number that digits write: each digit counts with the power of ten of its place
abbrev pub number_of : List ℕ → ℕ
number_of [] = 0
number_of (digit ∷ digits) = (digit - 48) * 10 ^ length digits + number_of digits

-- the digits that a text begins with
abbrev pub leading_digits : List ℕ → List ℕ
leading_digits [] = []
leading_digits (byte ∷ bytes) = if is_ascii_digit byte then byte ∷ leading_digits bytes else []

-- what follows the digits that a text begins with
abbrev pub after_digits : List ℕ → List ℕ
after_digits [] = []
after_digits (byte ∷ bytes) = if is_ascii_digit byte then after_digits bytes else byte ∷ bytes
