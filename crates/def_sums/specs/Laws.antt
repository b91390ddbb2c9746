-- What holds of sums, of products of signed numbers and of the floor. Each is the contract of a function of this crate.
use Rattle.std.specs.Prelude.{◌≡◌, ℕ, ◌+◌, ◌*◌, ◌≤◌, List, ◌++◌, length, ℤ, pos, ◌+ℤ◌, ◌*ℤ◌, ◌≤ℤ◌, neg_ℤ, unsigned_abs}
use Rattle.std.specs.Prelude.{All, sum}
use Rattle.std.specs.Int.{int_div_euclid}
use Rattle.def_sums.specs.Sum.{sum_over, nat_sum_over}
use Rattle.def_sums.specs.Floor.{IsFloorOf, floor_div}

-- the signed numbers are a commutative ring
pub record RingLaws : Type 0 where
  pub sum_groups : (a b c : ℤ) → (a +ℤ b) +ℤ c ≡ a +ℤ (b +ℤ c)
  pub sum_commutes : (a b : ℤ) → a +ℤ b ≡ b +ℤ a
  pub zero_adds_nothing : (a : ℤ) → pos 0 +ℤ a ≡ a
  pub negative_cancels : (a : ℤ) → a +ℤ neg_ℤ a ≡ pos 0
  pub product_groups : (a b c : ℤ) → (a *ℤ b) *ℤ c ≡ a *ℤ (b *ℤ c)
  pub product_commutes : (a b : ℤ) → a *ℤ b ≡ b *ℤ a
  pub one_changes_nothing : (a : ℤ) → pos 1 *ℤ a ≡ a
  pub product_spreads : (a b c : ℤ) → a *ℤ (b +ℤ c) ≡ a *ℤ b +ℤ a *ℤ c

-- a natural factor keeps the order, and one that is not 0 can be taken away again
pub record OrderLaws : Type 0 where
  pub sum_keeps : (a b c d : ℤ) → a ≤ℤ b → c ≤ℤ d → (a +ℤ c) ≤ℤ (b +ℤ d)
  pub product_keeps : (n : ℕ) (a b : ℤ) → a ≤ℤ b → (pos n *ℤ a) ≤ℤ (pos n *ℤ b)
  pub product_cancels : (n : ℕ) (a b : ℤ) → 1 ≤ n → (pos n *ℤ a) ≤ℤ (pos n *ℤ b) → a ≤ℤ b

-- the size of a sum is at most the sum of the sizes, and that of a product is their product
pub record SizeLaws : Type 0 where
  pub of_sum : (a b : ℤ) → unsigned_abs (a +ℤ b) ≤ unsigned_abs a + unsigned_abs b
  pub of_product : (a b : ℤ) → unsigned_abs (a *ℤ b) ≡ unsigned_abs a * unsigned_abs b
  pub of_sum_over : (f : ℕ → ℤ) (xs : List ℕ) → unsigned_abs (sum_over f xs) ≤ nat_sum_over (λ x. unsigned_abs (f x)) xs
  pub of_bounded : (f : ℕ → ℕ) (bound : ℕ) (xs : List ℕ) → All (λ x. f x ≤ bound) xs
      → nat_sum_over f xs ≤ length xs * bound

-- a sum over a list spreads over parts of the list, over sums and over a common factor,
-- and two sums can be taken in either order
pub record SumLaws : Type 0 where
  pub over_parts : (f : ℕ → ℤ) (xs ys : List ℕ) → sum_over f (xs ++ ys) ≡ sum_over f xs +ℤ sum_over f ys
  pub over_sum : (f g : ℕ → ℤ) (xs : List ℕ) → sum_over (λ x. f x +ℤ g x) xs ≡ sum_over f xs +ℤ sum_over g xs
  pub over_factor : (c : ℤ) (f : ℕ → ℤ) (xs : List ℕ) → sum_over (λ x. c *ℤ f x) xs ≡ c *ℤ sum_over f xs
  pub exchange : (f : ℕ → ℕ → ℤ) (xs ys : List ℕ)
      → sum_over (λ x. sum_over (λ y. f x y) ys) xs ≡ sum_over (λ y. sum_over (λ x. f x y) xs) ys
  pub in_order : (f g : ℕ → ℤ) (xs : List ℕ) → All (λ x. f x ≤ℤ g x) xs → sum_over f xs ≤ℤ sum_over g xs
  pub of_naturals : (f : ℕ → ℕ) (xs : List ℕ) → sum_over (λ x. pos (f x)) xs ≡ pos (nat_sum_over f xs)
  pub as_sum : (xs : List ℕ) → nat_sum_over (λ x. x) xs ≡ sum xs

-- the quotient is the one whole number q with q * d ≤ n < (q + 1) * d
pub record FloorLaws : Type 0 where
  pub is_floor : (n : ℤ) (d : ℕ) → 1 ≤ d → IsFloorOf n d (floor_div n d)
  pub only : (n : ℤ) (d : ℕ) (q : ℤ) → IsFloorOf n d q → q ≡ floor_div n d
  pub as_euclid : (n : ℤ) (d : ℕ) → floor_div n d ≡ int_div_euclid n (pos d)
