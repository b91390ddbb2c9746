-- Nodes beside their names.
use Rattle.std.proofs.Common.{◌≡◌, ℕ, zero, suc, ◌<◌, ◌≤◌, List, [], ◌∷◌, length, get_or, Some, arith}
use Rattle.std.specs.Prelude.{slice_get}
use Rattle.std.specs.List.{zip}

-- where both lists have an element at a place, the pair of these stands there in the list of pairs
pub line_at : {A B : Type 0} (ns : List A) (ms : List B) (i : ℕ) (n : A) (m : B) → slice_get ns i ≡ Some n
    → slice_get ms i ≡ Some m → get_or (zip ns ms) i (n, m) ≡ (n, m)
line_at [] ms i n m en em = absurd cc
line_at (x ∷ ns) [] i n m en em = absurd cc
line_at (x ∷ ns) (y ∷ ms) zero n m en em = let same : x ≡ n = cc in let named : y ≡ m = cc in (λ i. (same i, named i))
line_at (x ∷ ns) (y ∷ ms) (suc i) n m en em = line_at ns ms i n m en em

-- where both lists have an element at a place, the list of pairs is longer than this place
pub line_there : {A B : Type 0} (ns : List A) (ms : List B) (i : ℕ) (n : A) (m : B) → slice_get ns i ≡ Some n
    → slice_get ms i ≡ Some m → i < length (zip ns ms)
line_there [] ms i n m en em = absurd cc
line_there (x ∷ ns) [] i n m en em = absurd cc
line_there (x ∷ ns) (y ∷ ms) zero n m en em = omega arith
line_there (x ∷ ns) (y ∷ ms) (suc i) n m en em = let later : i < length (zip ns ms) = line_there ns ms i n m en em in omega arith

-- there are at most as many pairs as the first list has elements
pub lines_few : {A B : Type 0} (ns : List A) (ms : List B) → length (zip ns ms) ≤ length ns
lines_few [] ms = omega arith
lines_few (x ∷ ns) [] = omega arith
lines_few (x ∷ ns) (y ∷ ms) = let later : length (zip ns ms) ≤ length ns = lines_few ns ms in omega arith
