-- Elements of lists of numbers, and rising lists.
use Rattle.std.proofs.Common.{◌≡◌, ℕ, zero, suc, ◌+◌, ◌<◌, ◌≤◌, List, [], ◌∷◌, refl, arith}
use Rattle.std.specs.Prelude.{Contains}
use Rattle.std.specs.List.{AllPairs, range_with_len}
use Rattle.std.specs.List.Sorted.{IsStrictlyIncreasing}
use Rattle.std.proofs.lemmas.List.FromFn.{get_or-range_with_len, length-range_with_len}

-- a first element is in its list
pub Contains-head : {X : Type 0} (x : X) (xs : List X) → Contains (x ∷ xs) x
Contains-head x xs = (0, omega arith, refl)

-- what is in a list is still in it behind a new first element
pub Contains-tail : {X : Type 0} (y x : X) (xs : List X) → Contains xs x → Contains (y ∷ xs) x
Contains-tail y x xs (k, below, is) = (suc k, omega arith, is)

rest_rises : (x : ℕ) (xs : List ℕ) → AllPairs (λ a b. a < b) (x ∷ xs) → AllPairs (λ a b. a < b) xs
rest_rises x xs up i j d less below = up (suc i) (suc j) d (omega arith) (omega arith)

above_first : (x : ℕ) (xs : List ℕ) (r : ℕ) → AllPairs (λ a b. a < b) (x ∷ xs) → Contains xs r → x < r
above_first x xs r up (k, below, is) = omega (arith, up 0 (suc k) r (omega arith) (omega arith), is)

first_is_least : (x : ℕ) (xs : List ℕ) (r : ℕ) → AllPairs (λ a b. a < b) (x ∷ xs) → Contains (x ∷ xs) r → x ≤ r
first_is_least x xs r up (zero, below, is) = omega (arith, is)
first_is_least x xs r up (suc k, below, is) =
    let far : x < r = above_first x xs r up (k, omega arith, is) in omega arith

behind_first : (x : ℕ) (xs : List ℕ) (r : ℕ) → x < r → Contains (x ∷ xs) r → Contains xs r
behind_first x xs r far (zero, below, is) = absurd (omega (arith, is))
behind_first x xs r far (suc k, below, is) = (k, omega arith, is)

-- two rising lists with the same elements are one
pub same_elements : (xs ys : List ℕ) → AllPairs (λ a b. a < b) xs → AllPairs (λ a b. a < b) ys
    → ((r : ℕ) → Contains xs r → Contains ys r) → ((r : ℕ) → Contains ys r → Contains xs r) → xs ≡ ys
same_elements [] [] up down to from = refl
same_elements [] (y ∷ ys) up down to from =
    absurd (let there = from y (Contains-head y ys) in omega (arith, there.1))
same_elements (x ∷ xs) [] up down to from =
    absurd (let there = to x (Contains-head x xs) in omega (arith, there.1))
same_elements (x ∷ xs) (y ∷ ys) up down to from =
    let low : y ≤ x = first_is_least y ys x down (to x (Contains-head x xs)) in
    let high : x ≤ y = first_is_least x xs y up (from y (Contains-head y ys)) in
    let first : x ≡ y = omega arith in
    let rest : xs ≡ ys = same_elements xs ys (rest_rises x xs up) (rest_rises y ys down)
    (λ r there. let far : x < r = above_first x xs r up there in
    behind_first y ys r (omega arith) (to r (Contains-tail x r xs there)))
    (λ r there. let far : y < r = above_first y ys r down there in
    behind_first x xs r (omega arith) (from r (Contains-tail y r ys there))) in
    λ i. first i ∷ rest i

-- a range of numbers rises
pub range_rises : (a n : ℕ) → IsStrictlyIncreasing (range_with_len a n)
range_rises a n k below =
    let low : k < n = omega (arith, length-range_with_len a n) in
    let next : k + 1 < n = omega (arith, length-range_with_len a n) in
    omega (arith, get_or-range_with_len a n k 0 low, get_or-range_with_len a n (k + 1) 0 next)
