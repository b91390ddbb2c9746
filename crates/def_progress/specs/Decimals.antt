-- Decimals with a fixed number of places behind the point.
--     Decimal            a number of units of the last place, and how many places there are
--     decimal_text       its text: `0.0125`
--     value_of           its value
--     IsQuotientText     the text of what is asked: `0.001`, `1/3`
use Rattle.std.specs.Prelude.{◌≡◌, ℕ, zero, suc, ◌+◌, ◌*◌, ◌/◌, ◌%◌, ◌^◌, ◌<◌, ◌≤◌, List, [], ◌∷◌, ◌++◌, pos}
use Rattle.std.specs.Fmt.{decimal}
use Rattle.def_fraction.specs.Fraction.{Fraction}
use Rattle.def_fraction.specs.Literal.{point, slash}

pub record Decimal : Type 0 where
  pub number : ℕ
  pub places : ℕ

abbrev pub value_of : Decimal → Fraction
value_of d = record { num = pos d.number; den = 10 ^ d.places }

-- so many last digits of a number
abbrev pub last_digits : ℕ → ℕ → List ℕ
last_digits zero n = []
last_digits (suc places) n = (48 + n / 10 ^ places % 10) ∷ last_digits places n

-- the point and the digits behind it, where there are any
abbrev pub behind_point : ℕ → ℕ → List ℕ
behind_point zero n = []
behind_point (suc places) n = point ∷ last_digits (suc places) n

-- the digits before the point, and what is behind them
abbrev pub decimal_text : Decimal → List ℕ
decimal_text d = decimal (d.number / 10 ^ d.places) ++ behind_point d.places d.number

-- the most places of a decimal
abbrev pub most_places : ℕ
most_places = 18

-- a decimal of so many places has the value num / den
abbrev pub Suffice : ℕ → ℕ → ℕ → Type 0
Suffice num den places = num * 10 ^ places % den ≡ 0

-- num / den exactly: the decimal with the fewest places, where 18 suffice, else the numerator and the denominator
pub data IsQuotientText (num den : ℕ) (text : List ℕ) : Type 0 where
  as_decimal : (d : Decimal) → d.places ≤ most_places → num * 10 ^ d.places ≡ d.number * den
      → ((fewer : ℕ) → fewer < d.places → Suffice num den fewer → ⊥) → text ≡ decimal_text d
      → IsQuotientText num den text
  as_fraction : ((places : ℕ) → places ≤ most_places → Suffice num den places → ⊥)
      → text ≡ decimal num ++ slash ∷ decimal den → IsQuotientText num den text
