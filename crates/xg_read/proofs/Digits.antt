-- The numbers of one digit and of two, and the literals of one digit.
use Rattle.std.proofs.Common.{◌≡◌, ℕ, zero, suc, ◌+◌, ◌-◌, ◌*◌, ◌<◌, ◌≤◌, w64, pos, ◌-ℤ◌, to_z, of_z, subst, true, List, [], ◌∷◌, length, get_or, Ok, refl, sym, ap}
use Rattle.std.proofs.Common.{arith}
use Rattle.std.specs.Prelude.{nat_le}
use Rattle.std.specs.Char.{is_ascii_digit}
use Rattle.std.proofs.lemmas.Bool.{and_from, le-leb}
use Rattle.def_fraction.specs.Digits.{is_numeral, number_of}
use Rattle.def_fraction.specs.Divisors.{gcd}
use Rattle.def_fraction.specs.Fraction.{fraction_of, most, whole_number}
use Rattle.def_fraction.specs.Reading.{body_after, body_of, decimal_of, literal_of, power_of, read_as_literal, read_as_whole, value_of}

-- a digit alone is read as its value
pub one_digit : (bytes : List ℕ) → length bytes ≡ 1 → 48 ≤ get_or bytes 0 0 → get_or bytes 0 0 ≤ 57
    → Ok (get_or bytes 0 0 - 48) ≡ read_as_whole bytes
unfolding read_as_whole
one_digit [] one above below = absurd (omega arith)
one_digit (b ∷ c ∷ bytes) one above below = absurd (omega arith)
one_digit (b ∷ []) one above below =
    let digit : is_ascii_digit b ≡ true = and_from (nat_le 48 b) (nat_le b 57) (le-leb 48 b above) (le-leb b 57 below) in
    let numeral : is_numeral (b ∷ []) ≡ true = rw digit refl in
    let value : number_of (b ∷ []) ≡ b - 48 = omega arith in
    let small : nat_le (number_of (b ∷ [])) most ≡ true = le-leb (number_of (b ∷ [])) most (omega (arith, value)) in
    rw (numeral, small) (ap Ok (sym value))

-- two digits alone are read as ten times the first and the second
pub two_digits : (bytes : List ℕ) → length bytes ≡ 2 → 48 ≤ get_or bytes 0 0 → get_or bytes 0 0 ≤ 57
    → 48 ≤ get_or bytes 1 0 → get_or bytes 1 0 ≤ 57
    → Ok ((get_or bytes 0 0 - 48) * 10 + (get_or bytes 1 0 - 48)) ≡ read_as_whole bytes
unfolding read_as_whole
two_digits [] two above below above_one below_one = absurd (omega arith)
two_digits (a ∷ []) two above below above_one below_one = absurd (omega arith)
two_digits (a ∷ b ∷ c ∷ bytes) two above below above_one below_one = absurd (omega arith)
two_digits (a ∷ b ∷ []) two above below above_one below_one =
    let first : is_ascii_digit a ≡ true = and_from (nat_le 48 a) (nat_le a 57) (le-leb 48 a above) (le-leb a 57 below) in
    let second : is_ascii_digit b ≡ true = and_from (nat_le 48 b) (nat_le b 57) (le-leb 48 b above_one) (le-leb b 57 below_one) in
    let numeral : is_numeral (a ∷ b ∷ []) ≡ true = rw (first, second) refl in
    let value : number_of (a ∷ b ∷ []) ≡ (a - 48) * 10 + (b - 48) = omega arith in
    let small : nat_le (number_of (a ∷ b ∷ [])) most ≡ true = le-leb (number_of (a ∷ b ∷ [])) most (omega (arith, value)) in
    rw (numeral, small) (ap Ok (sym value))

-- each number below ten is one of the ten
below_ten : (P : ℕ → Type 0) → P 0 → P 1 → P 2 → P 3 → P 4 → P 5 → P 6 → P 7 → P 8 → P 9 → (d : ℕ) → d < 10 → P d
below_ten P p0 p1 p2 p3 p4 p5 p6 p7 p8 p9 zero h = p0
below_ten P p0 p1 p2 p3 p4 p5 p6 p7 p8 p9 (suc zero) h = p1
below_ten P p0 p1 p2 p3 p4 p5 p6 p7 p8 p9 (suc (suc zero)) h = p2
below_ten P p0 p1 p2 p3 p4 p5 p6 p7 p8 p9 (suc (suc (suc zero))) h = p3
below_ten P p0 p1 p2 p3 p4 p5 p6 p7 p8 p9 (suc (suc (suc (suc zero)))) h = p4
below_ten P p0 p1 p2 p3 p4 p5 p6 p7 p8 p9 (suc (suc (suc (suc (suc zero))))) h = p5
below_ten P p0 p1 p2 p3 p4 p5 p6 p7 p8 p9 (suc (suc (suc (suc (suc (suc zero)))))) h = p6
below_ten P p0 p1 p2 p3 p4 p5 p6 p7 p8 p9 (suc (suc (suc (suc (suc (suc (suc zero))))))) h = p7
below_ten P p0 p1 p2 p3 p4 p5 p6 p7 p8 p9 (suc (suc (suc (suc (suc (suc (suc (suc zero)))))))) h = p8
below_ten P p0 p1 p2 p3 p4 p5 p6 p7 p8 p9 (suc (suc (suc (suc (suc (suc (suc (suc (suc zero))))))))) h = p9
below_ten P p0 p1 p2 p3 p4 p5 p6 p7 p8 p9 (suc (suc (suc (suc (suc (suc (suc (suc (suc (suc d)))))))))) h = absurd (omega arith)

-- a digit as a literal has its value
digit_value : (d : ℕ) → d < 10 → Ok (whole_number (to_z w64 d)) ≡ read_as_literal ((48 + d) ∷ [])
unfolding read_as_literal literal_of value_of body_of body_after decimal_of power_of fraction_of gcd
digit_value = below_ten (λ d. Ok (whole_number (to_z w64 d)) ≡ read_as_literal ((48 + d) ∷ [])) refl refl refl refl refl refl refl refl refl refl

-- a minus and a digit have its negative value
minus_digit_value : (d : ℕ) → d < 10 → Ok (whole_number (to_z w64 (of_z w64 (pos 0 -ℤ to_z w64 d)))) ≡ read_as_literal (45 ∷ (48 + d) ∷ [])
unfolding read_as_literal literal_of value_of body_of body_after decimal_of power_of fraction_of gcd
minus_digit_value = below_ten (λ d. Ok (whole_number (to_z w64 (of_z w64 (pos 0 -ℤ to_z w64 d)))) ≡ read_as_literal (45 ∷ (48 + d) ∷ [])) refl refl refl refl
    refl refl refl refl refl refl

-- a digit alone is read as its value
pub digit_literal : (bytes : List ℕ) → length bytes ≡ 1 → 48 ≤ get_or bytes 0 0 → get_or bytes 0 0 ≤ 57
    → Ok (whole_number (to_z w64 (get_or bytes 0 0 - 48))) ≡ read_as_literal bytes
digit_literal [] one above below = absurd (omega arith)
digit_literal (b ∷ c ∷ bytes) one above below = absurd (omega arith)
digit_literal (b ∷ []) one above below =
    let same : 48 + (b - 48) ≡ b = omega arith in
    subst (λ byte. Ok (whole_number (to_z w64 (b - 48))) ≡ read_as_literal (byte ∷ [])) same (digit_value (b - 48) (omega arith))

-- a minus and a digit are read as its negative value
pub minus_digit_literal : (bytes : List ℕ) → length bytes ≡ 2 → get_or bytes 0 0 ≡ 45 → 48 ≤ get_or bytes 1 0 → get_or bytes 1 0 ≤ 57
    → Ok (whole_number (to_z w64 (of_z w64 (pos 0 -ℤ to_z w64 (get_or bytes 1 0 - 48))))) ≡ read_as_literal bytes
minus_digit_literal [] two minus above below = absurd (omega arith)
minus_digit_literal (a ∷ []) two minus above below = absurd (omega arith)
minus_digit_literal (a ∷ b ∷ c ∷ bytes) two minus above below = absurd (omega arith)
minus_digit_literal (a ∷ b ∷ []) two minus above below =
    let same : 48 + (b - 48) ≡ b = omega arith in
    let value : ℕ → ℕ → Type 0 = λ x y. Ok (whole_number (to_z w64 (of_z w64 (pos 0 -ℤ to_z w64 (b - 48))))) ≡ read_as_literal (x ∷ y ∷ []) in
    subst (λ x. value x b) (sym minus) (subst (λ y. value 45 y) same (minus_digit_value (b - 48) (omega arith)))
