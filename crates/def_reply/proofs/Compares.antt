-- Fractions compared by products: a / m with b / n as a * n with b * m.
use Rattle.std.proofs.Common.{◌≡◌, ℕ, ◌^◌, ◌≤◌, ◌<◌, ◌⊎◌, inl, inr, true, false, ℤ, pos, ◌*ℤ◌, ◌≤ℤ◌, ◌<ℤ◌, int_lt, unsigned_abs, arith, subst, ⊎_elim}
use Rattle.std.proofs.Math.Nat.{mul-le-mul}
use Rattle.std.proofs.lemmas.Int.{ints, by_lt_z, unsigned_abs-mul}
use Rattle.std.proofs.lemmas.Bool.{cases_Bool}
use Rattle.def_sums.proofs.RingLaws.{≤ℤ_trans, *ℤ-mono_right, *ℤ-cancel_right}
use Rattle.def_sums.specs.Limits.{most_rounds}
use Rattle.def_fraction.proofs.OrderLemmas.{times_turned}

lt_yes : (x y : ℤ) → int_lt x y ≡ true → x <ℤ y
lt_yes x y e = omega (arith, ints)

-- where the test says no, y is at most x
pub lt_no : (x y : ℤ) → int_lt x y ≡ false → y ≤ℤ x
lt_no x y e = omega (arith, ints)

-- the test says yes and x is below y, or it says no and y is at most x
pub int_lt_tells : (x y : ℤ) → ((int_lt x y ≡ true) × (x <ℤ y)) ⊎ ((int_lt x y ≡ false) × (y ≤ℤ x))
int_lt_tells x y = ⊎_elim (λ e. inl (e, lt_yes x y e)) (λ e. inr (e, lt_no x y e)) (cases_Bool (int_lt x y))

-- an integer that is below another is at most that one
pub less_at_most : (x y : ℤ) → x <ℤ y → x ≤ℤ y
less_at_most x y h = omega (arith, ints)

-- x isn't below y where y is at most x
pub not_less : (x y : ℤ) → x <ℤ y → y ≤ℤ x → ⊥
not_less x y h k = omega (arith, ints)

-- a / m at most b / n, and that at most c / o
pub at_most-trans : (a b c : ℤ) (m n o : ℕ) → 1 ≤ n → (a *ℤ pos n) ≤ℤ (b *ℤ pos m) → (b *ℤ pos o) ≤ℤ (c *ℤ pos n)
    → (a *ℤ pos o) ≤ℤ (c *ℤ pos m)
at_most-trans a b c m n o some h k =
    let first : ((a *ℤ pos o) *ℤ pos n) ≤ℤ ((b *ℤ pos o) *ℤ pos m) =
    subst (λ z. z ≤ℤ ((b *ℤ pos o) *ℤ pos m)) (times_turned a n o) (subst (λ z. ((a *ℤ pos n) *ℤ pos o) ≤ℤ z) (times_turned b m o)
    (*ℤ-mono_right o (a *ℤ pos n) (b *ℤ pos m) h))
    in
    let second : ((b *ℤ pos o) *ℤ pos m) ≤ℤ ((c *ℤ pos m) *ℤ pos n) =
    subst (λ z. ((b *ℤ pos o) *ℤ pos m) ≤ℤ z) (times_turned c n m) (*ℤ-mono_right m (b *ℤ pos o) (c *ℤ pos n) k)
    in
    *ℤ-cancel_right n (a *ℤ pos o) (c *ℤ pos m) some (≤ℤ_trans _ _ _ first second)

-- the same where the second step, or the first, is strict
pub at_most-less : (a b c : ℤ) (m n o : ℕ) → 1 ≤ m → (a *ℤ pos n) ≤ℤ (b *ℤ pos m) → (b *ℤ pos o) <ℤ (c *ℤ pos n)
    → (a *ℤ pos o) <ℤ (c *ℤ pos m)
at_most-less a b c m n o some h k =
    by_lt_z (a *ℤ pos o) (c *ℤ pos m) (λ less. less) (λ le. absurd (not_less (b *ℤ pos o) (c *ℤ pos n) k (at_most-trans c a b o m n some le h)))

-- a / m below b / n, and that at most c / o, so a / m is below c / o
pub less-at_most : (a b c : ℤ) (m n o : ℕ) → 1 ≤ o → (a *ℤ pos n) <ℤ (b *ℤ pos m) → (b *ℤ pos o) ≤ℤ (c *ℤ pos n)
    → (a *ℤ pos o) <ℤ (c *ℤ pos m)
less-at_most a b c m n o some h k =
    by_lt_z (a *ℤ pos o) (c *ℤ pos m) (λ less. less) (λ le. absurd (not_less (a *ℤ pos n) (b *ℤ pos m) h (at_most-trans b c a n o m some k le)))

-- a bound of size up to 2 ^ 98 times a round within the limit stays below 2 ^ 115
pub product-below : (bound : ℤ) (round : ℕ) → unsigned_abs bound ≤ 2 ^ 98 → round ≤ most_rounds
    → unsigned_abs (bound *ℤ pos round) < 2 ^ 115
product-below bound round h k = omega (arith, unsigned_abs-mul bound (pos round), mul-le-mul h k)
