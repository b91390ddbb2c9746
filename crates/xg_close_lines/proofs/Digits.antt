-- The last digits of a number, one by one.
use Rattle.std.proofs.Common.{◌≡◌, ℕ, zero, suc, ◌+◌, ◌-◌, ◌/◌, ◌%◌, ◌^◌, ◌<◌, ◌∷◌, refl, arith}
use Rattle.def_fraction.specs.Literal.{point}
use Rattle.def_progress.specs.Decimals.{behind_point, last_digits}

-- the first of them, and the rest
pub first_digit : (places number : ℕ) → 0 < places
    → last_digits places number ≡ (48 + number / 10 ^ (places - 1) % 10) ∷ last_digits (places - 1) number
first_digit zero number some = absurd (omega arith)
first_digit (suc places) number some = let less : suc places - 1 ≡ places = omega arith in rw less refl

-- the point is before them
pub with_point : (places number : ℕ) → 0 < places → behind_point places number ≡ point ∷ last_digits places number
with_point zero number some = absurd (omega arith)
with_point (suc places) number some = refl
