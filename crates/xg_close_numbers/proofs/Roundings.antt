-- A decimal with one place more.
use Rattle.std.proofs.Common.{◌≡◌, ℕ, ◌+◌, ◌*◌, ◌/◌, ◌%◌, ◌^◌, ◌≤◌, ◌<◌, ◌⊎◌, ⊎_elim, sym, ap, ◌∙◌, arith}
use Rattle.std.proofs.Math.Nat.{mul_assoc, mul_comm, add-mul, div-lt_iff_lt-mul}
use Rattle.xg_close_numbers.specs.Places.{IsAtPlace}
use Rattle.std.proofs.lemmas.Nat.{div-add-mod', pow-add}

-- what is left after one digit more
pub next_place : (num den number rest places : ℕ) → num * 10 ^ places ≡ number * den + rest
    → num * 10 ^ (places + 1) ≡ (number * 10 + rest * 10 / den) * den + rest * 10 % den
next_place num den number rest places is =
    let power : 10 ^ (places + 1) ≡ 10 ^ places * 10 = pow-add 10 places 1 in
    let left : num * 10 ^ (places + 1) ≡ (number * den + rest) * 10 =
    ap (λ n. num * n) power ∙ sym (mul_assoc num (10 ^ places) 10) ∙ ap (λ n. n * 10) is in
    let first = add-mul (number * den) rest 10 in
    let turned : (number * den) * 10 ≡ (number * 10) * den =
    mul_assoc number den 10 ∙ ap (λ n. number * n) (mul_comm den 10) ∙ sym (mul_assoc number 10 den) in
    let right = add-mul (number * 10) (rest * 10 / den) den in
    let whole = div-add-mod' (rest * 10) den in
    omega arith

pub next_at_place : (num den number rest places : ℕ) → 1 ≤ den → den < 2 ^ 120 → places < 18
    → (places ≡ 0) ⊎ (number < 100) → IsAtPlace num den number rest places
    → IsAtPlace num den (number * 10 + rest * 10 / den) (rest * 10 % den) (places + 1)
next_at_place num den number rest places some small few short at =
    let digit : rest * 10 / den < 10 = (div-lt_iff_lt-mul some).1 (omega (arith, at.rest_left)) in
    record {
      value = next_place num den number rest places at.value;
      rest_left = omega (arith, some);
      few = omega arith;
      first = λ none. absurd (omega arith);
      small = ⊎_elim (λ none. omega (arith, at.first none, digit)) (λ low. omega (arith, digit)) short;
    }
