-- Greatest common divisors and least common multiples of natural numbers (Euclid, Elements, book VII).
use Rattle.std.specs.Prelude.{ℕ, zero, suc, ◌*◌, ◌/◌, ◌%◌}
use Prim.Native.Nat.{◌∣◌}

-- Euclid's algorithm, for as many turns as are given
abbrev pub gcd_within : ℕ → ℕ → ℕ → ℕ
gcd_within zero a b = a
gcd_within (suc turns) a zero = a
gcd_within (suc turns) a (suc b) = gcd_within turns (suc b) (a % suc b)

-- the greatest common divisor: b turns are enough, since each makes the second number smaller
unfoldable pub gcd : ℕ → ℕ → ℕ
gcd a b = gcd_within b a b

-- the least common multiple of two numbers of which one is at least 1
abbrev pub lcm : ℕ → ℕ → ℕ
lcm a b = a / gcd a b * b

-- m is the least common multiple of a and b: both divide it, and it divides each number that both divide
pub record IsLcm (a b m : ℕ) : Type 0 where
  pub first_divides : a ∣ m
  pub second_divides : b ∣ m
  pub least : (k : ℕ) → a ∣ k → b ∣ k → m ∣ k
