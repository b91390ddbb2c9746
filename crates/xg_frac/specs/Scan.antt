-- How the reader keeps numbers that may be past all the limits: one past the greatest stands for all that are greater.
use Rattle.std.specs.Prelude.{◌≡◌, ℕ, ◌≤◌, ◌+◌, ◌-◌, ◌*◌, ◌^◌, min, List, length, Option}
use Rattle.xg_frac.specs.declared.literal.Quotient.{Quotient}
use Rattle.xg_frac.specs.declared.literal.Exponent.{Exponent}
use Rattle.def_fraction.specs.Digits.{number_of, leading_digits, after_digits}
use Rattle.def_fraction.specs.Literal.{Power, Body, raised, lowered, numerator, denominator, most_written}

abbrev pub past_all : ℕ
past_all = most_written + 1

-- the number that digits write after others that write start
abbrev pub capped : ℕ → List ℕ → ℕ
capped start digits = min (start * 10 ^ length digits + number_of digits) past_all

-- reading has come to `rest`, behind so many digits, with this number: what follows gives what all bytes give
pub record ScansPart (start : ℕ) (bytes : List ℕ) (number len : ℕ) (rest : List ℕ) : Type 0 where
  pub within : number ≤ past_all
  pub number_is : capped number (leading_digits rest) ≡ capped start (leading_digits bytes)
  pub len_is : len + length (leading_digits rest) ≡ length (leading_digits bytes)
  pub after_is : after_digits rest ≡ after_digits bytes

abbrev pub quotient_of : Body → Quotient
quotient_of body = record { num = min (numerator body) past_all; den = min (denominator body) past_all }

-- a decimal of this number, with so many places after the point
abbrev pub decimal_quotient : ℕ → ℕ → Option Power → Quotient
decimal_quotient number places power = record {
  num = min (number * 10 ^ (raised power - (places + lowered power))) past_all;
  den = min (10 ^ (places + lowered power - raised power)) past_all;
}

abbrev pub exponent_of : Option Power → Exponent
exponent_of power = record { raised = raised power; lowered = lowered power }
