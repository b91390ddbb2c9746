-- The cards, and those that are left.
use Rattle.std.proofs.Common.{◌≡◌, ℕ, zero, suc, ◌+◌, ◌≤◌, ◌<◌, Bool, true, false, cond, List, [], ◌∷◌, length, refl, ap, ◌∙◌, arith}
use Rattle.std.specs.Prelude.{filter, nat_eq, not}
use Rattle.std.specs.List.{range_with_len}
use Rattle.std.proofs.lemmas.Bool.{eqb-false, eqb-true, ne_eqb}
use Rattle.def_canon.specs.Poker.{cards, others, cards_without}

-- all of them are from 1 to n
abbrev pub AreCards : ℕ → List ℕ → Type 0
AreCards n [] = Unit {0}
AreCards n (j ∷ js) = ((1 ≤ j) × (j ≤ n)) × AreCards n js

range_cards : (n a m : ℕ) → 1 ≤ a → a + m ≤ n + 1 → AreCards n (range_with_len a m)
range_cards n a zero low high = tt
range_cards n a (suc m) low high = ((low, omega arith), range_cards n (a + 1) m (omega arith) (omega arith))

filter_cards : (p : ℕ → Bool) (n : ℕ) (js : List ℕ) → AreCards n js → AreCards n (filter p js)
filter_cards p n [] are = tt
filter_cards p n (j ∷ js) are = chosen (p j) (filter_cards p n js are.1)
  where
    chosen : (b : Bool) → AreCards n (filter p js) → AreCards n (cond b (j ∷ filter p js) (filter p js))
    chosen true later = (are.0, later)
    chosen false later = later

-- each of n cards is a number from 1 to n
pub cards_are : (n : ℕ) → AreCards n (cards n)
cards_are n = range_cards n 1 n (omega arith) (omega arith)

-- each card other than card i is a number from 1 to n
pub others_are : (n i : ℕ) → AreCards n (others n i)
others_are n i = filter_cards (λ j. not (nat_eq i j)) n (cards n) (cards_are n)

pub without-other : (i j : ℕ) (js : List ℕ) → nat_eq i j ≡ false → cards_without i (j ∷ js) ≡ j ∷ cards_without i js
without-other i j js other = ap (λ b. cond (not b) (j ∷ cards_without i js) (cards_without i js)) other

pub without-own : (i j : ℕ) (js : List ℕ) → nat_eq i j ≡ true → cards_without i (j ∷ js) ≡ cards_without i js
without-own i j js own = ap (λ b. cond (not b) (j ∷ cards_without i js) (cards_without i js)) own

none_left_out : (i a m : ℕ) → i < a → length (cards_without i (range_with_len a m)) ≡ m
none_left_out i a zero below = refl
none_left_out i a (suc m) below =
    let later = none_left_out i (a + 1) m (omega arith) in
    let other : nat_eq i a ≡ false = ne_eqb i a (omega arith) in
    ap length (without-other i a (range_with_len (a + 1) m) other) ∙ ap suc later

one_left_out : (i a m : ℕ) → a ≤ i → i < a + m → length (cards_without i (range_with_len a m)) + 1 ≡ m
one_left_out i a zero low high = absurd (omega arith)
one_left_out i a (suc m) low high = chosen (nat_eq i a) refl (λ more. one_left_out i (a + 1) m more (omega arith))
  where
    chosen : (b : Bool) → nat_eq i a ≡ b → (a + 1 ≤ i → length (cards_without i (range_with_len (a + 1) m)) + 1 ≡ m)
        → length (cond (not b) (a ∷ cards_without i (range_with_len (a + 1) m)) (cards_without i (range_with_len (a + 1) m))) + 1
        ≡ suc m
    chosen true is later =
        let same : i ≡ a = eqb-true i a is in
        let all = none_left_out i (a + 1) m (omega arith) in
        omega (arith, all)
    chosen false is later =
        let other : i ≡ a → ⊥ = eqb-false i a is in
        let more : a + 1 ≤ i = omega (arith, other, low) in
        let rest : length (cards_without i (range_with_len (a + 1) m)) + 1 ≡ m = later more in
        omega (arith, rest)

-- all but one are left
pub others_count : (n i : ℕ) → 1 ≤ i → i ≤ n → length (others n i) + 1 ≡ n
others_count n i low high = one_left_out i 1 n low (omega arith)
