-- The leaves of a thread, one after the other, and what they bring to their sequence.
use Rattle.std.proofs.Common.{◌≡◌, ℕ, zero, suc, ◌+◌, ◌-◌, ◌<◌, ◌≤◌, Bool, true, false, cond, eqb, List, [], ◌∷◌, length}
use Rattle.std.proofs.Common.{get_or, filter, take, drop, refl, ap, sym, ◌∙◌, arith, eqb-true, Some, None}
use Rattle.std.specs.Prelude.{Option, pos, ◌+ℤ◌}
use Rattle.std.proofs.lemmas.List.{drop-drop, drop-take, get_or-drop, get_or-map, get_or-take, length-drop, length-take}
use Rattle.def_sums.specs.Sum.{sum_over}
use Rattle.def_tree.specs.declared.Player.{Player}
use Rattle.def_plan.specs.Form.{Leaf, leaf_sequence}
use Rattle.def_plan.specs.Payoff.{leaf_sum}
use Rattle.def_plan.specs.Threads.{first_leaf_from, paid_at_leaf, sequence_of_leaf}
use Rattle.xg_touched.specs.Threads.{leaf_numbered, leaves_after}

-- a leaf in front adds to the sum where it has the sequence
abbrev sum_with : Bool → Player → List ℕ → ℕ → Leaf → List Leaf → Rattle.std.specs.Prelude.ℤ
sum_with b player against s x xs =
    let rest = filter (λ (z : Leaf). eqb (leaf_sequence player z) s) xs in
    sum_over (paid_at_leaf player against) (cond b (x ∷ rest) rest)

-- leaf n is the first of these leaves that has the sequence, and the sum over them begins with it
record IsFirst (player : Player) (s m : ℕ) (xs : List Leaf) (against : List ℕ) (n : ℕ) : Type 0 where
  low : m ≤ n
  high : n < m + length xs
  own : (d : Leaf) → leaf_sequence player (get_or xs (n - m) d) ≡ s
  sum : (d : Leaf) → leaf_sum player xs against s ≡ paid_at_leaf player against (get_or xs (n - m) d) +ℤ leaf_sum player (drop (n + 1 - m) xs) against s

is_first : (player : Player) (s m : ℕ) (xs : List Leaf) (against : List ℕ) (n : ℕ)
    → first_leaf_from player s m xs ≡ Some n → IsFirst player s m xs against n
is_first player s m [] against n e = absurd (cc)
is_first player s m (x ∷ xs) against n e = by_test (λ later. is_first player s (m + 1) xs against n later) (eqb (leaf_sequence player x) s) refl e
  where
    by_test : (first_leaf_from player s (m + 1) xs ≡ Some n → IsFirst player s (m + 1) xs against n) → (b : Bool)
        → eqb (leaf_sequence player x) s ≡ b
        → cond b (Some m) (first_leaf_from player s (m + 1) xs) ≡ Some n → IsFirst player s m (x ∷ xs) against n
    by_test later true same e =
        let is : m ≡ n = cc in
        let place : n - m ≡ zero = omega arith in
        let behind : n + 1 - m ≡ suc zero = omega arith in
        record {
          low = omega arith;
          high = omega arith;
          own = λ d. ap (λ k. leaf_sequence player (get_or (x ∷ xs) k d)) place ∙ eqb-true (leaf_sequence player x) s same;
          sum = λ d.
              ap (λ b. sum_with b player against s x xs) same
              ∙ sym (λ i. paid_at_leaf player against (get_or (x ∷ xs) (place i) d) +ℤ leaf_sum player (drop (behind i) (x ∷ xs)) against s);
        }
    by_test later false other e =
        let f : IsFirst player s (m + 1) xs against n = later e in
        let low : m + 1 ≤ n = f.low in
        let place : n - m ≡ suc (n - (m + 1)) = omega arith in
        let behind : n + 1 - m ≡ suc (n + 1 - (m + 1)) = omega arith in
        record {
          low = omega arith;
          high = omega (arith, f.high);
          own = λ d. ap (λ k. leaf_sequence player (get_or (x ∷ xs) k d)) place ∙ f.own d;
          sum = λ d.
              ap (λ b. sum_with b player against s x xs) other ∙ f.sum d
              ∙ sym (λ i. paid_at_leaf player against (get_or (x ∷ xs) (place i) d) +ℤ leaf_sum player (drop (behind i) (x ∷ xs)) against s);
        }

-- leaves of which none has the sequence bring nothing to it
pub none_left : (player : Player) (s m : ℕ) (xs : List Leaf) (against : List ℕ) → first_leaf_from player s m xs ≡ None
    → leaf_sum player xs against s ≡ pos 0
none_left player s m [] against e = refl
none_left player s m (x ∷ xs) against e = by_test (λ later. none_left player s (m + 1) xs against later) (eqb (leaf_sequence player x) s) refl e
  where
    by_test : (first_leaf_from player s (m + 1) xs ≡ None → leaf_sum player xs against s ≡ pos 0) → (b : Bool)
        → eqb (leaf_sequence player x) s ≡ b
        → cond b (Some m) (first_leaf_from player s (m + 1) xs) ≡ None → leaf_sum player (x ∷ xs) against s ≡ pos 0
    by_test later true same e = absurd (cc)
    by_test later false other e = ap (λ b. sum_with b player against s x xs) other ∙ later e

-- what is found among all leaves is found among the first k where it is one of them
pub first_kept : (player : Player) (s m k : ℕ) (xs : List Leaf) (n : ℕ) → first_leaf_from player s m xs ≡ Some n
    → n < m + k → first_leaf_from player s m (take k xs) ≡ Some n
first_kept player s m k [] n e below = absurd (cc)
first_kept player s m zero (x ∷ xs) n e below =
    absurd (let f = is_first player s m (x ∷ xs) [] n e in omega (arith, f.low))
first_kept player s m (suc k) (x ∷ xs) n e below = by_test (λ later. first_kept player s (m + 1) k xs n later (omega arith)) (eqb (leaf_sequence player x) s) e
  where
    by_test : (first_leaf_from player s (m + 1) xs ≡ Some n → first_leaf_from player s (m + 1) (take k xs) ≡ Some n)
        → (b : Bool) → cond b (Some m) (first_leaf_from player s (m + 1) xs) ≡ Some n
        → cond b (Some m) (first_leaf_from player s (m + 1) (take k xs)) ≡ Some n
    by_test later true e = e
    by_test later false e = later e

-- and not where it is behind them
pub first_past : (player : Player) (s m k : ℕ) (xs : List Leaf) (n : ℕ) → first_leaf_from player s m xs ≡ Some n
    → m + k ≤ n → first_leaf_from player s m (take k xs) ≡ None
first_past player s m k [] n e past = absurd (cc)
first_past player s m zero (x ∷ xs) n e past = refl
first_past player s m (suc k) (x ∷ xs) n e past = by_test (λ later. first_past player s (m + 1) k xs n later (omega arith)) (eqb (leaf_sequence player x) s) e
  where
    by_test : (first_leaf_from player s (m + 1) xs ≡ Some n → first_leaf_from player s (m + 1) (take k xs) ≡ None)
        → (b : Bool) → cond b (Some m) (first_leaf_from player s (m + 1) xs) ≡ Some n
        → cond b (Some m) (first_leaf_from player s (m + 1) (take k xs)) ≡ None
    by_test later true e = absurd (let is : m ≡ n = cc in omega arith)
    by_test later false e = later e

pub first_none : (player : Player) (s m k : ℕ) (xs : List Leaf) → first_leaf_from player s m xs ≡ None
    → first_leaf_from player s m (take k xs) ≡ None
first_none player s m k [] e = none_taken k
  where
    none_taken : (k : ℕ) → first_leaf_from player s m (take k []) ≡ None
    none_taken zero = refl
    none_taken (suc k) = refl
first_none player s m zero (x ∷ xs) e = refl
first_none player s m (suc k) (x ∷ xs) e = by_test (λ later. first_none player s (m + 1) k xs later) (eqb (leaf_sequence player x) s) e
  where
    by_test : (first_leaf_from player s (m + 1) xs ≡ None → first_leaf_from player s (m + 1) (take k xs) ≡ None)
        → (b : Bool) → cond b (Some m) (first_leaf_from player s (m + 1) xs) ≡ None
        → cond b (Some m) (first_leaf_from player s (m + 1) (take k xs)) ≡ None
    by_test later true e = absurd (cc)
    by_test later false e = later e

-- leaf n is the first after leaf z that has the sequence, no later than the last, and the sum over those goes on with it
pub record GoesOn (player : Player) (leaves : List Leaf) (against : List ℕ) (s z last n : ℕ) : Type 0 where
  pub after : z < n
  pub within : n ≤ last
  pub own : sequence_of_leaf player n leaves ≡ s
  pub sum : leaf_sum player (leaves_after leaves z last) against s
      ≡ paid_at_leaf player against (leaf_numbered leaves n) +ℤ leaf_sum player (leaves_after leaves n last) against s

pub goes_on : (player : Player) (leaves : List Leaf) (against : List ℕ) (s z last n : ℕ) → z ≤ last
    → last ≤ length leaves → first_leaf_from player s (z + 1) (leaves_after leaves z last) ≡ Some n
    → GoesOn player leaves against s z last n
goes_on player leaves against s z last n order there e =
    let none : Leaf = record { sequence_one = 0; sequence_two = 0; weight = pos 0 } in
    let f : IsFirst player s (z + 1) (leaves_after leaves z last) against n = is_first player s (z + 1) (leaves_after leaves z last) against n e in
    let low : z + 1 ≤ n = f.low in
    let long : length (leaves_after leaves z last) ≡ last - z = omega (arith, length-take (last - z) (drop z leaves), length-drop z leaves) in
    let high : n ≤ last = omega (arith, f.high) in
    let at : z + (n - (z + 1)) ≡ n - 1 = omega arith in
    let read : get_or (leaves_after leaves z last) (n - (z + 1)) none ≡ leaf_numbered leaves n =
    get_or-take (last - z) (drop z leaves) (n - (z + 1)) none (omega arith) ∙ get_or-drop z leaves (n - (z + 1)) none
    ∙ ap (λ k. get_or leaves k none) at in
    let j : ℕ = n - z in
    let ahead : n + 1 - (z + 1) ≡ j = omega arith in
    let split : last - z ≡ j + (last - n) = omega arith in
    let place : z + j ≡ n = omega arith in
    let rest : drop (n + 1 - (z + 1)) (leaves_after leaves z last) ≡ leaves_after leaves n last =
    (λ i. drop (ahead i) (take (split i) (drop z leaves))) ∙ drop-take j (last - n) (drop z leaves)
    ∙ ap (take (last - n)) (drop-drop j z leaves ∙ ap (λ k. drop k leaves) place) in
    record {
      after = omega arith;
      within = high;
      own = get_or-map (leaf_sequence player) leaves (n - 1) none 0 (omega arith) ∙ ap (leaf_sequence player) (sym read) ∙ f.own none;
      sum = f.sum none ∙ (λ i. paid_at_leaf player against (read i) +ℤ leaf_sum player (rest i) against s);
    }

-- the next leaf of the thread of a leaf, as it was found
pub next_goes_on : (player : Player) (leaves : List Leaf) (against : List ℕ) (leaf z last n : ℕ) (found : Option ℕ) → z ≤ last
    → last ≤ length leaves → sequence_of_leaf player z leaves ≡ sequence_of_leaf player leaf leaves
    → found ≡ first_leaf_from player (sequence_of_leaf player z leaves) (z + 1) (leaves_after leaves z last) → found ≡ Some n
    → GoesOn player leaves against (sequence_of_leaf player leaf leaves) z last n
next_goes_on player leaves against leaf z last n found order there own search_is is =
    goes_on player leaves against (sequence_of_leaf player leaf leaves) z last n order there
    (ap (λ k. first_leaf_from player k (z + 1) (leaves_after leaves z last)) (sym own) ∙ sym search_is ∙ is)
