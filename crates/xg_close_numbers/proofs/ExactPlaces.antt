-- Decimals that have a quotient's value.
use Rattle.std.proofs.Common.{◌≡◌, ℕ, ◌+◌, ◌*◌, ◌/◌, ◌%◌, ◌^◌, ◌≤◌, ◌<◌, ap, below_more, arith}
use Rattle.std.proofs.Math.Nat.{div-lt_iff_lt-mul, pow-le-pow_right}
use Rattle.std.proofs.lemmas.Nat.{mod-mul-add, pow-add}
use Rattle.def_progress.specs.Decimals.{Suffice}
use Rattle.xg_close_numbers.specs.Places.{IsFirstPlace}
use Rattle.xg_close_numbers.proofs.Roundings.{next_place}

-- where something is left, the places don't suffice
pub not_here : (num den number rest places : ℕ) → num * 10 ^ places ≡ number * den + rest → rest < den → 1 ≤ rest
    → Suffice num den places → ⊥
not_here num den number rest places value less some suffice =
    let same : num * 10 ^ places % den ≡ (number * den + rest) % den = ap (λ n. n % den) value in
    absurd (omega (arith, mod-mul-add number den rest less))

pub next_first : (num den number rest places : ℕ) → 1 ≤ den → den < 2 ^ 124 → places < 18 → 1 ≤ rest
    → IsFirstPlace num den number rest places
    → IsFirstPlace num den (number * 10 + rest * 10 / den) (rest * 10 % den) (places + 1)
next_first num den number rest places some small few left at =
    let digit : rest * 10 / den < 10 = (div-lt_iff_lt-mul some).1 (omega (arith, at.rest_left)) in
    let power : 10 ^ (places + 1) ≡ 10 ^ places * 10 = pow-add 10 places 1 in
    let most : 10 ^ (places + 1) ≤ 10 ^ 18 = pow-le-pow_right {n = 10} (omega arith) {i = places + 1} {j = 18} (omega arith) in
    record {
      value = next_place num den number rest places at.value;
      rest_left = omega (arith, some);
      few = omega arith;
      fewer = below_more _ places at.fewer (not_here num den number rest places at.value at.rest_left left);
      size = omega (arith, at.size);
      small = omega (arith, at.size);
    }

-- at the last place none suffices
pub none_suffices : (num den number rest places : ℕ) → IsFirstPlace num den number rest places → 18 ≤ places → 1 ≤ rest
    → (some : ℕ) → some ≤ 18 → Suffice num den some → ⊥
none_suffices num den number rest places at last left =
    let none = below_more (λ (k : ℕ). Suffice num den k → ⊥) places at.fewer (not_here num den number rest places at.value at.rest_left left) in
    λ some few. none some (omega arith)
