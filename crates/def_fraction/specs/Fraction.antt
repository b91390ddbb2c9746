-- Exact fractions in lowest terms.
use Rattle.std.specs.Prelude.{◌≡◌, ℕ, suc, ◌*◌, ◌/◌, ◌≤◌, Bool, true, false, ◌&&◌, nat_eq, nat_le, ℤ, pos, negsuc}
use Rattle.std.specs.Prelude.{neg_ℤ, ◌+ℤ◌, ◌*ℤ◌, unsigned_abs}
use Rattle.std.specs.declared.cmp.Ordering.{Ordering}
use Rattle.std.specs.Ordering.{int_cmp}
use Rattle.def_fraction.specs.Divisors.{gcd}
use Rattle.def_fraction.specs.declared.TheConstants.{MOST_PART, MOST_WIDE}

-- num / den
pub record Fraction : Type 0 where
  pub num : ℤ
  pub den : ℕ

-- the numerator and the denominator have no divisor but 1 in common, and the denominator isn't 0
pub record IsInLowestTerms (f : Fraction) : Type 0 where
  pub positive : 1 ≤ f.den
  pub coprime : gcd (unsigned_abs f.num) f.den ≡ 1

-- num / den, as it is written
abbrev pub over : ℤ → ℕ → Fraction
over num den = record { num = num; den = den }

abbrev pub negative_of : ℕ → ℤ
negative_of n = neg_ℤ (pos n)

-- a number of this size, negative or not
abbrev pub signed : Bool → ℕ → ℤ
signed true size = neg_ℤ (pos size)
signed false size = pos size

-- n without the factor g, which divides it
abbrev pub without_factor : ℤ → ℕ → ℤ
without_factor (pos n) g = pos (n / g)
without_factor (negsuc n) g = neg_ℤ (pos (suc n / g))

-- num / den in lowest terms, where den isn't 0
unfoldable pub fraction_of : ℤ → ℕ → Fraction
fraction_of num den =
    let common = gcd (unsigned_abs num) den in
    record { num = without_factor num common; den = den / common }

abbrev pub whole_number : ℤ → Fraction
whole_number n = record { num = n; den = 1 }

abbrev pub zero_fraction : Fraction
zero_fraction = whole_number (pos 0)

-- 1 / n
abbrev pub one_over : ℕ → Fraction
one_over n = record { num = pos 1; den = n }

-- of fractions in lowest terms: the value is 0
abbrev pub is_zero : Fraction → Bool
is_zero f = nat_eq (unsigned_abs f.num) 0

abbrev pub sum_of : Fraction → Fraction → Fraction
sum_of a b = fraction_of ((a.num *ℤ pos b.den) +ℤ (b.num *ℤ pos a.den)) (a.den * b.den)

abbrev pub product_of : Fraction → Fraction → Fraction
product_of a b = fraction_of (a.num *ℤ b.num) (a.den * b.den)

-- the order of the values
abbrev pub order_of : Fraction → Fraction → Ordering
order_of a b = int_cmp (a.num *ℤ pos b.den) (b.num *ℤ pos a.den)

-- Limits, which are this project's own.

-- the greatest size of a part of a fraction in lowest terms
abbrev pub most : ℕ
most = MOST_PART

-- the greatest size of a part of a fraction that is kept with large parts
abbrev pub most_wide : ℕ
most_wide = MOST_WIDE

-- no part of the fraction passes the limit
abbrev pub fits : Fraction → Bool
fits f = nat_le (unsigned_abs f.num) most && nat_le f.den most
