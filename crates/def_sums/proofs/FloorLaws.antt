-- The quotient that rounds towards minus infinity.
use Rattle.std.proofs.Common.{◌≡◌, ℕ, zero, suc, ◌/◌, ◌≤◌, ℤ, pos, negsuc, ◌+ℤ◌, ◌*ℤ◌, ◌≤ℤ◌, ◌<ℤ◌, arith, refl}
use Rattle.std.proofs.lemmas.Int.{ints, by_lt_z}
use Rattle.std.specs.Int.{int_div_euclid}
use Rattle.def_sums.specs.Floor.{IsFloorOf, floor_div}
use Rattle.def_sums.specs.Laws.{FloorLaws}
use Rattle.def_sums.proofs.RingLaws.{+ℤ-*ℤ, *ℤ-mono_right, ≤ℤ_antisym}

-- the quotient is the greatest whole number that is at most n / d
pub floor_div-is_floor : (n : ℤ) (d : ℕ) → 1 ≤ d → IsFloorOf n d (floor_div n d)
floor_div-is_floor (pos n) d h = record { at_most = omega (arith, ints); above = omega (arith, ints) }
floor_div-is_floor (negsuc n) d h =
    let spread = +ℤ-*ℤ (negsuc (n / d)) (pos 1) (pos d) in
    record { at_most = omega (arith, ints); above = omega (arith, ints) }

divides_some : (n : ℤ) (d : ℕ) (q : ℤ) → IsFloorOf n d q → 1 ≤ d
divides_some n zero q h = omega (arith, ints)
divides_some n (suc d) q h = omega arith

-- a quotient that is at most n / d is at most one that is above it
below : (n : ℤ) (d : ℕ) (p q : ℤ) → (p *ℤ pos d) ≤ℤ n → n <ℤ ((q +ℤ pos 1) *ℤ pos d) → p ≤ℤ q
below n d p q h k =
    by_lt_z q p (λ less. let more = *ℤ-mono_right d (q +ℤ pos 1) p (omega (arith, ints)) in omega (arith, ints)) (λ le. le)

-- each whole number q with q * d ≤ n < (q + 1) * d is the quotient
pub floor_div-only : (n : ℤ) (d : ℕ) (q : ℤ) → IsFloorOf n d q → q ≡ floor_div n d
floor_div-only n d q h =
    let f = floor_div-is_floor n d (divides_some n d q h) in
    ≤ℤ_antisym q (floor_div n d) (below n d q (floor_div n d) h.at_most f.above) (below n d (floor_div n d) q f.at_most h.above)

pub floor_div-euclid : (n : ℤ) (d : ℕ) → floor_div n d ≡ int_div_euclid n (pos d)
floor_div-euclid (pos n) d = refl
floor_div-euclid (negsuc n) d = refl

-- the quotient is the one whole number q with q * d ≤ n < (q + 1) * d
pub floor_laws : FloorLaws
floor_laws = record { is_floor = floor_div-is_floor; only = floor_div-only; as_euclid = floor_div-euclid }
