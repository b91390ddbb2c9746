-- Sums over a list, from its last element on.
use Rattle.std.specs.Prelude.{ℕ, ◌+◌, List, [], ◌∷◌, ℤ, pos, ◌+ℤ◌}

-- the sum of f over the elements of a list
abbrev pub sum_over : {A : Type 0} → (A → ℤ) → List A → ℤ
sum_over f [] = pos 0
sum_over f (x ∷ xs) = f x +ℤ sum_over f xs

-- the same for an f that is never negative
abbrev pub nat_sum_over : {A : Type 0} → (A → ℕ) → List A → ℕ
nat_sum_over f [] = 0
nat_sum_over f (x ∷ xs) = f x + nat_sum_over f xs
