-- The number literals of Gambit's .efg files, by their form and by their exact value: `10`, `-1/2`,
-- `0.50`, `.5`, `5.`, `5e-1`. Gambit's manual ("The extensive game (.efg) file format") leaves the
-- exact form open: this is the project's choice.
use Rattle.std.specs.Prelude.{◌≡◌, ℕ, ◌+◌, ◌-◌, ◌*◌, ◌^◌, ◌<◌, ◌≤◌, Bool, true, false, List, [], ◌∷◌, ◌++◌, length}
use Rattle.std.specs.Prelude.{Option, Some, None, IsTrue, ◌⊎◌, ⊤, ℤ, if◌then◌else◌}
use Rattle.def_fraction.specs.Digits.{is_numeral, number_of}
use Rattle.def_fraction.specs.Fraction.{Fraction, fraction_of, fits, signed}
use Rattle.def_fraction.specs.declared.TheConstants.{MOST_WRITTEN}

-- The bytes beside digits.
abbrev pub plus : ℕ
plus = 43

abbrev pub minus : ℕ
minus = 45

abbrev pub point : ℕ
point = 46

abbrev pub slash : ℕ
slash = 47

abbrev pub capital_e : ℕ
capital_e = 69

abbrev pub small_e : ℕ
small_e = 101

-- What is written of a sign.
pub data Sign : Type 0 where
  no_sign : Sign
  plus_sign : Sign
  minus_sign : Sign

-- `e` or `E`, a sign and digits: times a power of ten
pub record Power : Type 0 where
  pub letter : ℕ
  pub sign : Sign
  pub digits : List ℕ

-- A literal without its sign: digits, `/`, digits; or digits with or without a point and the digits
-- after it, and with or without a power.
pub data Body : Type 0 where
  quotient : (above : List ℕ) → (below : List ℕ) → Body
  decimal : (before : List ℕ) → (after : Option (List ℕ)) → (power : Option Power) → Body

pub record Literal : Type 0 where
  pub sign : Sign
  pub body : Body

-- The bytes of a literal.

abbrev pub sign_text : Sign → List ℕ
sign_text no_sign = []
sign_text plus_sign = plus ∷ []
sign_text minus_sign = minus ∷ []

abbrev pub point_text : Option (List ℕ) → List ℕ
point_text None = []
point_text (Some digits) = point ∷ digits

abbrev pub power_text : Option Power → List ℕ
power_text None = []
power_text (Some p) = p.letter ∷ (sign_text p.sign ++ p.digits)

abbrev pub body_text : Body → List ℕ
body_text (quotient above below) = above ++ slash ∷ below
body_text (decimal before after power) = before ++ (point_text after ++ power_text power)

abbrev pub literal_text : Literal → List ℕ
literal_text l = sign_text l.sign ++ body_text l.body

-- What may stand in each part.

-- the digits after the point
abbrev pub digits_after : Option (List ℕ) → List ℕ
digits_after None = []
digits_after (Some digits) = digits

-- `e` or `E`, and one or two digits
abbrev pub IsPower : Option Power → Type 0
IsPower None = ⊤
IsPower (Some p) = ((p.letter ≡ small_e) ⊎ (p.letter ≡ capital_e)) × IsTrue (is_numeral p.digits)
    × (length p.digits ≤ 2)

-- in a decimal the digits before and after the point are together at least one
abbrev pub IsBody : Body → Type 0
IsBody (quotient above below) = IsTrue (is_numeral above) × IsTrue (is_numeral below)
IsBody (decimal before after power) = IsTrue (is_numeral (before ++ digits_after after)) × IsPower power

-- the bytes are those of the literal
pub record IsLiteral (bytes : List ℕ) (l : Literal) : Type 0 where
  pub spelled : literal_text l ≡ bytes
  pub formed : IsBody l.body

-- The exact value, as a numerator and a denominator.

abbrev pub is_minus : Sign → Bool
is_minus no_sign = false
is_minus plus_sign = false
is_minus minus_sign = true

-- the exponent k of the power of ten is raised - lowered
abbrev pub raised : Option Power → ℕ
raised None = 0
raised (Some p) = if is_minus p.sign then 0 else number_of p.digits

abbrev pub lowered : Option Power → ℕ
lowered None = 0
lowered (Some p) = if is_minus p.sign then number_of p.digits else 0

-- The numerator of a decimal is the number n of all its digits, and its denominator is 10 ^ (f - k),
-- where f digits stand after the point; where k is more than f, they are n * 10 ^ (k - f) and 1.
-- The difference of natural numbers stops at 0, so each line holds in both cases.
abbrev pub numerator : Body → ℕ
numerator (quotient above below) = number_of above
numerator (decimal before after power) =
    number_of (before ++ digits_after after) * 10 ^ (raised power - (length (digits_after after) + lowered power))

abbrev pub denominator : Body → ℕ
denominator (quotient above below) = number_of below
denominator (decimal before after power) = 10 ^ (length (digits_after after) + lowered power - raised power)

abbrev pub signed_numerator : Literal → ℤ
signed_numerator l = signed (is_minus l.sign) (numerator l.body)

-- the greatest numerator and denominator before reduction
abbrev pub most_written : ℕ
most_written = MOST_WRITTEN

abbrev pub exact_value : Literal → Fraction
exact_value l = fraction_of (signed_numerator l) (denominator l.body)

-- no part passes its limit, before reduction and in lowest terms
pub record IsInRange (l : Literal) : Type 0 where
  pub numerator_written : numerator l.body ≤ most_written
  pub denominator_written : denominator l.body ≤ most_written
  pub in_lowest_terms : IsTrue (fits (exact_value l))

-- What bytes may be to a reader of literals: one of these four.

abbrev pub IsNoLiteral : List ℕ → Type 0
IsNoLiteral bytes = (l : Literal) → ¬ (IsLiteral bytes l)

abbrev pub HasZeroDenominator : List ℕ → Type 0
HasZeroDenominator bytes = (l : Literal) × IsLiteral bytes l × (denominator l.body ≡ 0)

abbrev pub IsPastLimits : List ℕ → Type 0
IsPastLimits bytes = (l : Literal) × IsLiteral bytes l × (0 < denominator l.body) × (¬ (IsInRange l))

abbrev pub IsLiteralOf : List ℕ → Fraction → Type 0
IsLiteralOf bytes f = (l : Literal) × IsLiteral bytes l × (0 < denominator l.body) × IsInRange l × (f ≡ exact_value l)
