-- Sums over the numbers of a range, from its first on.
use Rattle.std.proofs.Common.{◌≡◌, ℕ, ◌+◌, ◌-◌, ◌≤◌, ℤ, ◌+ℤ◌, unsigned_abs, ap, ◌∙◌, arith}
use Rattle.std.specs.List.{range_with_len}
use Rattle.def_sums.specs.Sum.{sum_over, nat_sum_over}
use Rattle.def_sums.proofs.Ranges.{range-append}
use Rattle.def_sums.proofs.RingLaws.{+ℤ-zero}
use Rattle.def_sums.proofs.SumLaws.{sum_over-append, nat_sum_over-append, unsigned_abs-sum_over}

-- one number more
pub range_more : (f : ℕ → ℤ) (a n : ℕ)
    → sum_over f (range_with_len a (n + 1)) ≡ sum_over f (range_with_len a n) +ℤ f (a + n)
range_more f a n =
    ap (sum_over f) (range-append a n 1) ∙ sum_over-append f (range_with_len a n) (range_with_len (a + n) 1)
    ∙ ap (λ t. sum_over f (range_with_len a n) +ℤ t) (+ℤ-zero (f (a + n)))

front : (g : ℕ → ℕ) (a n m : ℕ) → n ≤ m → nat_sum_over g (range_with_len a n) ≤ nat_sum_over g (range_with_len a m)
front g a n m h =
    let e : n + (m - n) ≡ m = omega arith in
    omega (
      arith,
      ap (λ k. nat_sum_over g (range_with_len a k)) e,
      ap (nat_sum_over g) (range-append a n (m - n)),
      nat_sum_over-append g (range_with_len a n) (range_with_len (a + n) (m - n)),
    )

-- the sum of the first ones is no larger than the sizes of all together
pub front_size : (f : ℕ → ℤ) (a n m : ℕ) → n ≤ m
    → unsigned_abs (sum_over f (range_with_len a n)) ≤ nat_sum_over (λ s. unsigned_abs (f s)) (range_with_len a m)
front_size f a n m h = omega (arith, unsigned_abs-sum_over f (range_with_len a n), front (λ s. unsigned_abs (f s)) a n m h)
