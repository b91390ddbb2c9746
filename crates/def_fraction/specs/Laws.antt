-- What the computed definitions compute, in the words of arithmetic and of number formats.
use Rattle.std.specs.Prelude.{◌≡◌, ℕ, suc, ◌^◌, ◌<◌, ◌≤◌, ◌↔◌, List, [], ◌∷◌, slice_index, Some, Result, Ok, Err, ℤ}
use Rattle.std.specs.Prelude.{pos, negsuc, ◌*ℤ◌, unsigned_abs, IsTrue}
use Rattle.std.specs.declared.cmp.Ordering.TheVariants.{Less, Equal}
use Rattle.std.specs.Ordering.{ordering_reverse}
use Rattle.std.specs.Int.{IsGcd}
use Rattle.def_fraction.specs.declared.fault.NumberFault.{NumberFault}
use Rattle.def_fraction.specs.declared.fault.NumberFault.TheVariants.{Form, ZeroDenominator, Range}
use Rattle.def_fraction.specs.Digits.{is_numeral, number_of}
use Rattle.def_fraction.specs.Divisors.{gcd, lcm, IsLcm}
use Rattle.def_fraction.specs.Fraction.{Fraction, IsInLowestTerms, fraction_of, order_of, fits}
use Rattle.def_fraction.specs.Literal.{minus, Literal, IsLiteral, IsNoLiteral, HasZeroDenominator, IsPastLimits}
use Rattle.def_fraction.specs.Literal.{IsLiteralOf}
use Rattle.def_fraction.specs.Reading.{literal_of, read_as_literal}
use Rattle.def_fraction.specs.Text.{int_text, fraction_text}

-- `gcd` divides both numbers, and each common divisor divides it
abbrev pub GcdIsGreatest : Type 0
GcdIsGreatest = (a b : ℕ) → IsGcd a b (gcd a b)

-- `lcm` is a multiple of both numbers, and each common multiple is one of it
abbrev pub LcmIsLeast : Type 0
LcmIsLeast = (a b : ℕ) → 1 ≤ a → 1 ≤ b → IsLcm a b (lcm a b)

-- f is num / den
abbrev pub HasValue : Fraction → ℤ → ℕ → Type 0
HasValue f num den = f.num *ℤ pos den ≡ num *ℤ pos f.den

-- a fraction's lowest terms have its value
pub record ReducesExactly (num : ℤ) (den : ℕ) : Type 0 where
  pub lowest : IsInLowestTerms (fraction_of num den)
  pub exact : HasValue (fraction_of num den) num den

-- `fraction_of` gives the lowest terms, and they have the value of what they were made of
abbrev pub FractionIsReduced : Type 0
FractionIsReduced = (num : ℤ) (den : ℕ) → 1 ≤ den → ReducesExactly num den

-- two fractions in lowest terms with one value are one: so `≡` compares values
abbrev pub ValueTellsFraction : Type 0
ValueTellsFraction = (f g : Fraction) → IsInLowestTerms f → IsInLowestTerms g → HasValue f g.num g.den → f ≡ g

-- `order_of` orders the values: equal ones alone are one fraction, the other way round it is turned,
-- and less than less is less
pub record OrdersValues (f g h : Fraction) : Type 0 where
  pub same : order_of f g ≡ Equal → f ≡ g
  pub turned : order_of f g ≡ ordering_reverse (order_of g f)
  pub through : order_of f g ≡ Less → order_of g h ≡ Less → order_of f h ≡ Less

-- `order_of` is a total order of fractions in lowest terms
abbrev pub OrderIsTotal : Type 0
OrderIsTotal = (f g h : Fraction) → IsInLowestTerms f → IsInLowestTerms g → IsInLowestTerms h → OrdersValues f g h

-- bytes are read as a literal exactly where they are its bytes; so no bytes are two literals
abbrev pub LiteralIsSpelled : Type 0
LiteralIsSpelled = (bytes : List ℕ) (l : Literal) → (literal_of bytes ≡ Some l) ↔ IsLiteral bytes l

-- what reading gives says what the bytes are, and the other way round
pub record JudgesLiteral (bytes : List ℕ) (read : Result Fraction NumberFault) : Type 0 where
  pub form : (read ≡ Err Form) ↔ IsNoLiteral bytes
  pub zero_denominator : (read ≡ Err ZeroDenominator) ↔ HasZeroDenominator bytes
  pub range : (read ≡ Err Range) ↔ IsPastLimits bytes
  pub value : (f : Fraction) → (read ≡ Ok f) ↔ IsLiteralOf bytes f

-- reading a literal gives its value exactly where it has one within the limits, and else says what is wrong
abbrev pub LiteralIsJudged : Type 0
LiteralIsJudged = (bytes : List ℕ) → JudgesLiteral bytes (read_as_literal bytes)

-- the text of a natural number: digits that write it, with a leading zero only as the whole text of 0
pub record IsCanonical (n : ℕ) (text : List ℕ) : Type 0 where
  pub numeral : IsTrue (is_numeral text)
  pub value : number_of text ≡ n
  pub no_leading_zero : 0 < n → 48 < slice_index text 0
  pub zero : n ≡ 0 → text ≡ 48 ∷ []

abbrev pub IsCanonicalText : ℤ → List ℕ → Type 0
IsCanonicalText (pos n) text = IsCanonical n text
IsCanonicalText (negsuc n) text = (digits : List ℕ) × (text ≡ minus ∷ digits) × IsCanonical (suc n) digits

abbrev pub TextIsCanonical : Type 0
TextIsCanonical = (n : ℤ) → unsigned_abs n ≤ 2 ^ 127 → IsCanonicalText n (int_text n)

-- what is written of a fraction is read as this fraction
abbrev pub FractionIsReadBack : Type 0
FractionIsReadBack = (f : Fraction) → IsInLowestTerms f → IsTrue (fits f) → read_as_literal (fraction_text f) ≡ Ok f
