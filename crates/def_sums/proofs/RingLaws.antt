-- The ring laws of ℤ, of which the library has those without products, and what a natural factor does to the order.
-- An integer is read as the difference `up z - down z`, and a product is multiplied out by hand.
use Rattle.std.proofs.Common.{◌≡◌, ℕ, zero, suc, ◌+◌, ◌*◌, ◌≤◌, ℤ, pos, negsuc, ◌+ℤ◌, ◌*ℤ◌, ◌≤ℤ◌, neg_ℤ, unsigned_abs, arith, ap, ◌∙◌}
use Rattle.std.proofs.Math.Nat.{mul-le-mul_left, le_of_mul-le-mul_left}
use Rattle.std.proofs.lemmas.Int.{ints}
use borrow.Author.Differences.{up, down, product_is, sum_is_lem, le_out, at_most_in}
use Rattle.def_sums.specs.Laws.{RingLaws, OrderLaws}

-- a sum of three signed numbers can be grouped either way
pub +ℤ_assoc : (a b c : ℤ) → (a +ℤ b) +ℤ c ≡ a +ℤ (b +ℤ c)
+ℤ_assoc a b c = omega (arith, ints)

pub +ℤ_comm : (a b : ℤ) → a +ℤ b ≡ b +ℤ a
+ℤ_comm a b = omega (arith, ints)

-- adding a signed number to 0 gives this number
pub zero-+ℤ : (a : ℤ) → pos 0 +ℤ a ≡ a
zero-+ℤ a = omega (arith, ints)

-- adding 0 changes nothing
pub +ℤ-zero : (a : ℤ) → a +ℤ pos 0 ≡ a
+ℤ-zero a = omega (arith, ints)

pub +ℤ-neg : (a : ℤ) → a +ℤ neg_ℤ a ≡ pos 0
+ℤ-neg a = omega (arith, ints)

-- a product of three signed numbers can be grouped either way
pub *ℤ_assoc : (a b c : ℤ) → (a *ℤ b) *ℤ c ≡ a *ℤ (b *ℤ c)
*ℤ_assoc a b c =
    let ab = product_is a b in
    let bc = product_is b c in
    let up_up : up (a *ℤ b) * up c ≡ (up a * up b + down a * down b) * up c = ap (λ n. n * up c) ab.0 in
    let down_down : down (a *ℤ b) * down c ≡ (up a * down b + down a * up b) * down c = ap (λ n. n * down c) ab.1 in
    let up_down : up (a *ℤ b) * down c ≡ (up a * up b + down a * down b) * down c = ap (λ n. n * down c) ab.0 in
    let down_up : down (a *ℤ b) * up c ≡ (up a * down b + down a * up b) * up c = ap (λ n. n * up c) ab.1 in
    let up_up' : up a * up (b *ℤ c) ≡ up a * (up b * up c + down b * down c) = ap (λ n. up a * n) bc.0 in
    let down_down' : down a * down (b *ℤ c) ≡ down a * (up b * down c + down b * up c) = ap (λ n. down a * n) bc.1 in
    let up_down' : up a * down (b *ℤ c) ≡ up a * (up b * down c + down b * up c) = ap (λ n. up a * n) bc.1 in
    let down_up' : down a * up (b *ℤ c) ≡ down a * (up b * up c + down b * down c) = ap (λ n. down a * n) bc.0 in
    omega (arith, ints)

-- two signed numbers can be multiplied in either order
pub *ℤ_comm : (a b : ℤ) → a *ℤ b ≡ b *ℤ a
*ℤ_comm a b = omega (arith, ints)

-- 1 times a signed number is this number
pub one-*ℤ : (a : ℤ) → pos 1 *ℤ a ≡ a
one-*ℤ a = omega (arith, ints)

-- 0 times a signed number is 0
pub zero-*ℤ : (a : ℤ) → pos 0 *ℤ a ≡ pos 0
zero-*ℤ a = omega (arith, ints)

-- a signed number times 0 is 0
pub *ℤ-zero : (a : ℤ) → a *ℤ pos 0 ≡ pos 0
*ℤ-zero a = omega (arith, ints)

-- a product spreads over a sum on its right
pub *ℤ-+ℤ : (a b c : ℤ) → a *ℤ (b +ℤ c) ≡ a *ℤ b +ℤ a *ℤ c
*ℤ-+ℤ a b c =
    let s = sum_is_lem b c in
    let above : up a * (up (b +ℤ c) + down b + down c) ≡ up a * (down (b +ℤ c) + up b + up c) = ap (λ n. up a * n) s in
    let below : down a * (up (b +ℤ c) + down b + down c) ≡ down a * (down (b +ℤ c) + up b + up c) = ap (λ n. down a * n) s in
    omega (arith, ints)

-- a product spreads over a sum on its left
pub +ℤ-*ℤ : (a b c : ℤ) → (a +ℤ b) *ℤ c ≡ a *ℤ c +ℤ b *ℤ c
+ℤ-*ℤ a b c = *ℤ_comm (a +ℤ b) c ∙ *ℤ-+ℤ c a b ∙ ap (λ z. z +ℤ c *ℤ b) (*ℤ_comm c a) ∙ ap (λ z. a *ℤ c +ℤ z) (*ℤ_comm c b)

-- the negative of a number times another is the negative of their product
pub neg-*ℤ : (a b : ℤ) → neg_ℤ a *ℤ b ≡ neg_ℤ (a *ℤ b)
neg-*ℤ (pos zero) (pos n) = omega (arith, ints)
neg-*ℤ (pos zero) (negsuc n) = omega (arith, ints)
neg-*ℤ (pos (suc m)) (pos n) = omega (arith, ints)
neg-*ℤ (pos (suc m)) (negsuc n) = omega (arith, ints)
neg-*ℤ (negsuc m) (pos n) = omega (arith, ints)
neg-*ℤ (negsuc m) (negsuc n) = omega (arith, ints)

-- ---- the order
pub ≤ℤ_refl : (a : ℤ) → a ≤ℤ a
≤ℤ_refl a = omega (arith, ints)

pub ≤ℤ_same : (a b : ℤ) → a ≡ b → a ≤ℤ b
≤ℤ_same a b e = omega (arith, ints)

-- what is at most something that is at most a third is at most the third
pub ≤ℤ_trans : (a b c : ℤ) → a ≤ℤ b → b ≤ℤ c → a ≤ℤ c
≤ℤ_trans a b c h k = omega (arith, ints)

-- two signed numbers that are each at most the other are equal
pub ≤ℤ_antisym : (a b : ℤ) → a ≤ℤ b → b ≤ℤ a → a ≡ b
≤ℤ_antisym a b h k = omega (arith, ints)

-- the sum of two numbers is at most that of two that are no smaller
pub +ℤ-mono : (a b c d : ℤ) → a ≤ℤ b → c ≤ℤ d → (a +ℤ c) ≤ℤ (b +ℤ d)
+ℤ-mono a b c d h k = omega (arith, ints)

-- a natural factor keeps the order of two signed numbers
pub *ℤ-mono : (n : ℕ) (a b : ℤ) → a ≤ℤ b → (pos n *ℤ a) ≤ℤ (pos n *ℤ b)
*ℤ-mono n a b h = let m : n * (up a + down b) ≤ n * (up b + down a) = mul-le-mul_left n (le_out a b h) in omega (arith, ints)

-- a natural factor on the left that isn't 0 can be taken away from both sides of an order
pub *ℤ-cancel : (n : ℕ) (a b : ℤ) → 1 ≤ n → (pos n *ℤ a) ≤ℤ (pos n *ℤ b) → a ≤ℤ b
*ℤ-cancel n a b p h =
    let m : n * (up a + down b) ≤ n * (up b + down a) = omega (arith, ints) in
    at_most_in a b (le_of_mul-le-mul_left m p)

-- a product of which a factor is not below 0 and the other one not above another number
pub *ℤ-mono_right : (n : ℕ) (a b : ℤ) → a ≤ℤ b → (a *ℤ pos n) ≤ℤ (b *ℤ pos n)
*ℤ-mono_right n a b h = let m : n * (up a + down b) ≤ n * (up b + down a) = mul-le-mul_left n (le_out a b h) in omega (arith, ints)

-- a natural factor on the right that isn't 0 can be taken away from both sides of an order
pub *ℤ-cancel_right : (n : ℕ) (a b : ℤ) → 1 ≤ n → (a *ℤ pos n) ≤ℤ (b *ℤ pos n) → a ≤ℤ b
*ℤ-cancel_right n a b p h =
    let m : n * (up a + down b) ≤ n * (up b + down a) = omega (arith, ints) in
    at_most_in a b (le_of_mul-le-mul_left m p)

-- ---- sizes
pub unsigned_abs-+ℤ : (a b : ℤ) → unsigned_abs (a +ℤ b) ≤ unsigned_abs a + unsigned_abs b
unsigned_abs-+ℤ a b = omega (arith, ints)

-- the signed numbers are a commutative ring
pub ring_laws : RingLaws
ring_laws = record {
  sum_groups = +ℤ_assoc;
  sum_commutes = +ℤ_comm;
  zero_adds_nothing = zero-+ℤ;
  negative_cancels = +ℤ-neg;
  product_groups = *ℤ_assoc;
  product_commutes = *ℤ_comm;
  one_changes_nothing = one-*ℤ;
  product_spreads = *ℤ-+ℤ;
}

-- a natural factor keeps the order, and one that is not 0 can be taken away again
pub order_laws : OrderLaws
order_laws = record { sum_keeps = +ℤ-mono; product_keeps = *ℤ-mono; product_cancels = *ℤ-cancel }
