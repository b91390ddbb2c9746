-- The potential of regret matching at one set, in whole numbers: the sum of the squares of the regrets' positive parts.
use Rattle.std.proofs.Common.{◌≡◌, ℕ, suc, ◌+◌, ◌*◌, ◌≤◌, List, [], ◌∷◌, length, All, arith, refl}
use Rattle.std.specs.Prelude.{ℤ, pos, negsuc, ◌+ℤ◌, ◌*ℤ◌, ◌≤ℤ◌, unsigned_abs}
use Rattle.std.proofs.lemmas.Int.{ints}
use Rattle.std.proofs.lemmas.List.Elements.{All-head, All-tail}
use Rattle.std.proofs.Math.Nat.{mul-le-mul_left}
use Rattle.def_sums.specs.Sum.{sum_over, nat_sum_over}
use Rattle.def_sums.proofs.RingLaws.{*ℤ-+ℤ, +ℤ-*ℤ, *ℤ_comm}
use Rattle.def_round.specs.Play.{positive_part}
use Rattle.def_closing.proofs.Roots.{square-mono, twice-product}

-- ---- squares of signed numbers
pub square-not_negative : (z : ℤ) → pos 0 ≤ℤ (z *ℤ z)
square-not_negative (pos n) = omega (arith, ints)
square-not_negative (negsuc n) = omega (arith, ints)

-- what is at least a natural number has at least its square
square_above : (k : ℕ) (z : ℤ) → pos k ≤ℤ z → pos (k * k) ≤ℤ (z *ℤ z)
square_above k (pos n) h = let m : k * k ≤ n * n = square-mono k n (omega (arith, ints)) in omega (arith, ints)
square_above k (negsuc n) h = absurd (omega (arith, ints))

square_of_sum : (a d : ℤ) → (a +ℤ d) *ℤ (a +ℤ d) ≡ (a *ℤ a +ℤ pos 2 *ℤ (a *ℤ d)) +ℤ d *ℤ d
square_of_sum a d =
    omega (arith, ints, +ℤ-*ℤ a d (a +ℤ d), *ℤ-+ℤ a a d, *ℤ-+ℤ d a d, *ℤ_comm d a)

-- the positive part's square grows by at most twice the product and the square of what is added
grown_by_cases : (r d x : ℤ) → r +ℤ d ≡ x
    → pos (positive_part x * positive_part x) ≤ℤ ((pos (positive_part r * positive_part r) +ℤ pos 2 *ℤ (pos (positive_part r) *ℤ d)) +ℤ d *ℤ d)
grown_by_cases (pos n) d (pos k) e = omega (arith, ints, square_above k (pos n +ℤ d) (omega (arith, ints)), square_of_sum (pos n) d)
grown_by_cases (negsuc n) d (pos k) e = omega (arith, ints, square_above k (pos 0 +ℤ d) (omega (arith, ints)), square_of_sum (pos 0) d)
grown_by_cases r d (negsuc k) e = omega (arith, ints, square-not_negative (pos (positive_part r) +ℤ d), square_of_sum (pos (positive_part r)) d)

pub grown_square : (r d : ℤ)
    → pos (positive_part (r +ℤ d) * positive_part (r +ℤ d)) ≤ℤ ((pos (positive_part r * positive_part r) +ℤ pos 2 *ℤ (pos (positive_part r) *ℤ d)) +ℤ d *ℤ d)
grown_square r d = grown_by_cases r d (r +ℤ d) refl

-- ---- sums over a set's sequences
abbrev pub potential : (ℕ → ℤ) → List ℕ → ℕ
potential r xs = nat_sum_over (λ s. positive_part (r s) * positive_part (r s)) xs

pub potential-grows : (r d : ℕ → ℤ) (xs : List ℕ)
    → pos (potential (λ s. r s +ℤ d s) xs)
    ≤ℤ ((pos (potential r xs) +ℤ pos 2 *ℤ sum_over (λ s. pos (positive_part (r s)) *ℤ d s) xs) +ℤ sum_over (λ s. d s *ℤ d s) xs)
potential-grows r d [] = omega (arith, ints)
potential-grows r d (x ∷ xs) = omega (arith, ints, grown_square (r x) (d x), potential-grows r d xs)

-- ---- numbers near each other weigh nearly the same
pub near : (a b e : ℕ) (d : ℤ) → a ≤ b + e → b ≤ a + e → (pos a *ℤ d) ≤ℤ (pos b *ℤ d +ℤ pos (e * unsigned_abs d))
near a b e (pos k) up down = let m : k * a ≤ k * (b + e) = mul-le-mul_left k up in omega (arith, ints)
near a b e (negsuc k) up down = let m : suc k * b ≤ suc k * (a + e) = mul-le-mul_left (suc k) down in omega (arith, ints)

abbrev pub size_of : (ℕ → ℤ) → List ℕ → ℕ
size_of d xs = nat_sum_over (λ s. unsigned_abs (d s)) xs

pub near-sum : (a b : ℕ → ℕ) (e : ℕ) (d : ℕ → ℤ) (xs : List ℕ) → All (λ s. a s ≤ b s + e) xs → All (λ s. b s ≤ a s + e) xs
    → sum_over (λ s. pos (a s) *ℤ d s) xs ≤ℤ (sum_over (λ s. pos (b s) *ℤ d s) xs +ℤ pos (e * size_of d xs))
near-sum a b e d [] up down = omega (arith, ints)
near-sum a b e d (x ∷ xs) up down =
    omega (
      arith,
      ints,
      near (a x) (b x) e (d x) (All-head (λ s. a s ≤ b s + e) x xs up) (All-head (λ s. b s ≤ a s + e) x xs down),
      near-sum a b e d xs (All-tail (λ s. a s ≤ b s + e) x xs up) (All-tail (λ s. b s ≤ a s + e) x xs down),
    )

-- ---- Cauchy and Schwarz
abbrev squares : (ℕ → ℕ) → List ℕ → ℕ
squares f xs = nat_sum_over (λ s. f s * f s) xs

twice_each : (x : ℕ) (f : ℕ → ℕ) (xs : List ℕ) → 2 * (x * nat_sum_over f xs) ≤ length xs * (x * x) + squares f xs
twice_each x f [] = omega arith
twice_each x f (y ∷ ys) = omega (arith, twice-product x (f y), twice_each x f ys)

pub square_of_sum-le : (f : ℕ → ℕ) (xs : List ℕ) → nat_sum_over f xs * nat_sum_over f xs ≤ length xs * squares f xs
square_of_sum-le f [] = omega arith
square_of_sum-le f (x ∷ xs) = omega (arith, twice_each (f x) f xs, square_of_sum-le f xs)
