-- The threads of leaves list the leaves of each sequence.
use Rattle.std.proofs.Common.{◌≡◌, ℕ, zero, suc, ◌+◌, ◌-◌, ◌<◌, ◌≤◌, Bool, true, false, cond, eqb, List, [], ◌∷◌, length, map, filter, drop, refl, ap, sym}
use Rattle.std.proofs.Common.{subst, ◌∙◌, arith, ⊎_elim, eqb-true, eq-eqb, Option, Some, slice_get}
use Rattle.std.specs.Prelude.{Contains, slice_index}
use Rattle.std.specs.List.Sorted.{IsStrictlyIncreasing}
use Rattle.std.proofs.lemmas.Bool.{cases_eq}
use Rattle.std.proofs.lemmas.List.{get_or_default}
use Rattle.def_sums.proofs.RisingLists.{Contains-head, Contains-tail}
use Rattle.def_tree.specs.declared.Player.{Player}
use Rattle.def_plan.specs.Form.{Leaf, leaf_sequence}
use Rattle.def_plan.specs.Threads.{first_leaf_from, next_leaf, sequence_of_leaf, numbered_from, leaf_numbers_from, leaf_numbers, ThreadsListTheLeaves}

-- the numbers of the leaves behind a first one, and with the first one's number where b is true
abbrev with_first : Bool → Player → ℕ → ℕ → Leaf → List Leaf → List ℕ
with_first b player s z x xs =
    let rest = filter (λ (p : ℕ × Leaf). eqb (leaf_sequence player p.1) s) (numbered_from (z + 1) xs) in
    map (λ (p : ℕ × Leaf). p.0) (cond b ((z, x) ∷ rest) rest)

-- the first leaf with a sequence has the first of the numbers
first_is_head : (player : Player) (s z : ℕ) (leaves : List Leaf)
    → first_leaf_from player s z leaves ≡ slice_get (leaf_numbers_from player s z leaves) 0
first_is_head player s z [] = refl
first_is_head player s z (x ∷ xs) = by_test (first_is_head player s (z + 1) xs) (eqb (leaf_sequence player x) s)
  where
    by_test : first_leaf_from player s (z + 1) xs ≡ slice_get (leaf_numbers_from player s (z + 1) xs) 0 → (b : Bool)
        → cond b (Some z) (first_leaf_from player s (z + 1) xs) ≡ slice_get (with_first b player s z x xs) 0
    by_test later true = refl
    by_test later false = later

-- the leaf of the number n has the sequence, and `after` is the first behind it that has the sequence
record IsFollowed (player : Player) (s z : ℕ) (leaves : List Leaf) (n : ℕ) (after : Option ℕ) : Type 0 where
  low : z ≤ n
  high : n < z + length leaves
  own : slice_index (map (leaf_sequence player) leaves) (n - z) ≡ s
  next : first_leaf_from player s (n + 1) (drop (n + 1 - z) leaves) ≡ after

-- the same with one leaf more in front
followed_later : (player : Player) (s z : ℕ) (x : Leaf) (xs : List Leaf) (n : ℕ) (after : Option ℕ)
    → IsFollowed player s (z + 1) xs n after → IsFollowed player s z (x ∷ xs) n after
followed_later player s z x xs n after f =
    let place : n - z ≡ suc (n - (z + 1)) = omega (arith, f.low) in
    let behind : n + 1 - z ≡ suc (n + 1 - (z + 1)) = omega (arith, f.low) in
    record {
      low = omega (arith, f.low);
      high = omega (arith, f.high);
      own = ap (slice_index (map (leaf_sequence player) (x ∷ xs))) place ∙ f.own;
      next = ap (λ k. first_leaf_from player s (n + 1) (drop k (x ∷ xs))) behind ∙ f.next;
    }

followed_first : (player : Player) (s z : ℕ) (x : Leaf) (xs : List Leaf) → leaf_sequence player x ≡ s
    → IsFollowed player s z (x ∷ xs) z (slice_get (leaf_numbers_from player s (z + 1) xs) 0)
followed_first player s z x xs is =
    let place : z - z ≡ zero = omega arith in
    let behind : z + 1 - z ≡ suc zero = omega arith in
    record {
      low = omega arith;
      high = omega arith;
      own = ap (slice_index (map (leaf_sequence player) (x ∷ xs))) place ∙ is;
      next = ap (λ k. first_leaf_from player s (z + 1) (drop k (x ∷ xs))) behind ∙ first_is_head player s (z + 1) xs;
    }

-- each of the numbers is followed by the next of them
followed : (player : Player) (s z : ℕ) (leaves : List Leaf) (j : ℕ) → j < length (leaf_numbers_from player s z leaves)
    → IsFollowed player s z leaves (slice_index (leaf_numbers_from player s z leaves) j) (slice_get (leaf_numbers_from player s z leaves) (j + 1))
followed player s z [] j below = absurd (omega arith)
followed player s z (x ∷ xs) j below = by_test (λ i inside. followed player s (z + 1) xs i inside) (eqb (leaf_sequence player x) s) refl j below
  where
    by_test : ((i : ℕ) → i < length (leaf_numbers_from player s (z + 1) xs)
        → IsFollowed player s (z + 1) xs (slice_index (leaf_numbers_from player s (z + 1) xs) i) (slice_get (leaf_numbers_from player s (z + 1) xs) (i + 1)))
        → (b : Bool) → eqb (leaf_sequence player x) s ≡ b → (j : ℕ) → j < length (with_first b player s z x xs)
        → IsFollowed player s z (x ∷ xs) (slice_index (with_first b player s z x xs) j) (slice_get (with_first b player s z x xs) (j + 1))
    by_test behind true e zero below = followed_first player s z x xs (eqb-true (leaf_sequence player x) s e)
    by_test behind true e (suc i) below =
        let rest : List ℕ = leaf_numbers_from player s (z + 1) xs in
        let later : suc i + 1 ≡ suc (i + 1) = omega arith in
        subst (λ k. IsFollowed player s z (x ∷ xs) (slice_index rest i) (slice_get (z ∷ rest) k)) (sym later)
        (followed_later player s z x xs (slice_index rest i) (slice_get rest (i + 1)) (behind i (omega arith)))
    by_test behind false e i below =
        let rest : List ℕ = leaf_numbers_from player s (z + 1) xs in
        followed_later player s z x xs (slice_index rest i) (slice_get rest (i + 1)) (behind i below)

cons_rises : (z : ℕ) (rest : List ℕ) → IsStrictlyIncreasing rest
    → ((k : ℕ) → k < length rest → z < slice_index rest k) → IsStrictlyIncreasing (z ∷ rest)
cons_rises z rest up above zero below = above zero (omega arith)
cons_rises z rest up above (suc k) below =
    let later : suc k + 1 ≡ suc (k + 1) = omega arith in
    subst (λ i. slice_index rest k < slice_index (z ∷ rest) i) (sym later) (up k (omega arith))

-- the numbers rise
rising : (player : Player) (s z : ℕ) (leaves : List Leaf) → IsStrictlyIncreasing (leaf_numbers_from player s z leaves)
rising player s z [] = λ k below. absurd (omega arith)
rising player s z (x ∷ xs) = by_test (rising player s (z + 1) xs) (eqb (leaf_sequence player x) s)
  where
    by_test : IsStrictlyIncreasing (leaf_numbers_from player s (z + 1) xs) → (b : Bool) → IsStrictlyIncreasing (with_first b player s z x xs)
    by_test up true =
        cons_rises z (leaf_numbers_from player s (z + 1) xs) up
        (λ k below. omega (arith, (followed player s (z + 1) xs k below).low))
    by_test up false = up

-- a leaf that has the sequence is among the numbers
found : (player : Player) (s z : ℕ) (leaves : List Leaf) (n : ℕ) → z ≤ n → n < z + length leaves
    → slice_index (map (leaf_sequence player) leaves) (n - z) ≡ s → Contains (leaf_numbers_from player s z leaves) n
found player s z [] n low high own = absurd (omega arith)
found player s z (x ∷ xs) n low high own =
    ⊎_elim
    (λ here. first here (eqb (leaf_sequence player x) s) refl)
    (λ apart.
    let next : z + 1 ≤ n = beyond apart in
    let place : n - z ≡ suc (n - (z + 1)) = omega arith in
    later (found player s (z + 1) xs n next (omega arith) (sym (ap (slice_index (map (leaf_sequence player) (x ∷ xs))) place) ∙ own))
    (eqb (leaf_sequence player x) s))
    (cases_eq n z)
  where
    beyond : (n ≡ z → ⊥) → z + 1 ≤ n
    beyond apart = grind arith

    first : n ≡ z → (b : Bool) → eqb (leaf_sequence player x) s ≡ b → Contains (with_first b player s z x xs) n
    first here true e = subst (λ k. Contains (z ∷ leaf_numbers_from player s (z + 1) xs) k) (sym here) (Contains-head z (leaf_numbers_from player s (z + 1) xs))
    first here false e =
        let place : n - z ≡ zero = omega arith in
        let is : leaf_sequence player x ≡ s = sym (ap (slice_index (map (leaf_sequence player) (x ∷ xs))) place) ∙ own in
        absurd (let t = eq-eqb (leaf_sequence player x) s is in cc)

    later : Contains (leaf_numbers_from player s (z + 1) xs) n → (b : Bool) → Contains (with_first b player s z x xs) n
    later there true = Contains-tail z n (leaf_numbers_from player s (z + 1) xs) there
    later there false = there

-- they are exactly those of the leaves that have the sequence
exactly : (player : Player) (s : ℕ) (leaves : List Leaf) (n : ℕ) → Contains (leaf_numbers player s leaves) n
    → (1 ≤ n) × (n ≤ length leaves) × (sequence_of_leaf player n leaves ≡ s)
exactly player s leaves n (k, below, is) =
    let numbers : List ℕ = leaf_numbers player s leaves in
    let here : slice_index numbers k ≡ n = get_or_default numbers k 0 n below ∙ is in
    let f : IsFollowed player s 1 leaves n (slice_get numbers (k + 1)) =
    subst (λ m. IsFollowed player s 1 leaves m (slice_get numbers (k + 1))) here (followed player s 1 leaves k below) in
    (omega (arith, f.low), omega (arith, f.high), f.own)

next_of : (player : Player) (s : ℕ) (leaves : List Leaf) (j : ℕ) → j < length (leaf_numbers player s leaves)
    → next_leaf player (slice_index (leaf_numbers player s leaves) j) leaves ≡ slice_get (leaf_numbers player s leaves) (j + 1)
next_of player s leaves j below =
    let n : ℕ = slice_index (leaf_numbers player s leaves) j in
    let f = followed player s 1 leaves j below in
    let behind : n ≡ n + 1 - 1 = omega arith in
    (λ i. first_leaf_from player (f.own i) (n + 1) (drop (behind i) leaves)) ∙ f.next

pub threads_list_the_leaves : ThreadsListTheLeaves
threads_list_the_leaves player s leaves = record {
  first = first_is_head player s 1 leaves;
  next = next_of player s leaves;
  rising = rising player s 1 leaves;
  exact = λ z. (exactly player s leaves z, λ there. found player s 1 leaves z there.0 (omega (arith, there.1)) there.2);
}
