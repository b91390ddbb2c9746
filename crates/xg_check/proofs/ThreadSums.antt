-- Sums along the threads of leaves, and the rows after each.
use Rattle.std.proofs.Common.{◌≡◌, ◌≢◌, ℕ, zero, suc, ◌+◌, ◌-◌, ◌*◌, ◌^◌, ◌<◌, ◌≤◌, Bool, true, false, cond, eqb, List, [], ◌∷◌, length, get_or, drop, map}
use Rattle.std.proofs.Common.{Option, Some, None, slice_get, ℤ, pos, ◌+ℤ◌, unsigned_abs, All, refl, sym, ap, ◌∙◌, subst, arith, ⊎_elim, eqb-true, eq-eqb}
use Rattle.std.specs.Prelude.{⊤, slice_index}
use Rattle.std.proofs.lemmas.Bool.{cases_eq, cases_lt, cond-true, cond-false, ne_eqb}
use Rattle.std.proofs.lemmas.List.{drop_more, drop_all, get_or-map}
use Rattle.std.proofs.lemmas.List.Elements.{All-get_or, All-head, All-tail}
use Rattle.std.proofs.lemmas.Option.{get_or_from_slice_get}
use Rattle.def_tree.specs.declared.Player.{Player}
use Rattle.def_sums.proofs.RingLaws.{+ℤ-zero, zero-+ℤ, unsigned_abs-+ℤ}
use Rattle.def_plan.specs.Form.{Leaf, SequenceForm, leaf_sequence, player_sets, sequence_count}
use Rattle.def_plan.specs.Payoff.{leaf_sum}
use Rattle.def_plan.specs.Threads.{first_leaf, first_leaf_from, next_leaf, paid_at_leaf, sequence_of_leaf}
use Rattle.xg_seq.specs.Leaves.{HasSequences}
use Rattle.xg_seq.proofs.FormLemmas.{sequence_there}
use Rattle.xg_check.specs.ThreadSums.{HasSumsFrom, IsNumberWithin, sum_on}
use Rattle.xg_check.specs.Views.{AddsAt, AreAllWithin, row}
use Rattle.xg_check.proofs.AddLemmas.{leaf_more}

abbrev no_leaf : Leaf
no_leaf = record { sequence_one = 0; sequence_two = 0; weight = pos 0 }

-- how many leaves stand before the next one of a thread
abbrev pub passed : List Leaf → Option ℕ → ℕ
passed leaves None = length leaves
passed leaves (Some z) = z - 1

-- the next leaf of a thread, if there is one, has its sequence
abbrev pub IsOnThread : Player → ℕ → List Leaf → Option ℕ → Type 0
IsOnThread player s leaves None = ⊤
IsOnThread player s leaves (Some z) = (1 ≤ z) × (z ≤ length leaves) × (sequence_of_leaf player z leaves ≡ s)

-- behind the first i leaves, this is the next one that has the sequence
pub record IsNextBehind (player : Player) (s i : ℕ) (leaves : List Leaf) (against : List ℕ) (next : Option ℕ) : Type 0 where
  pub on : IsOnThread player s leaves next
  pub low : i ≤ passed leaves next
  pub high : passed leaves next ≤ length leaves
  pub left : leaf_sum player (drop i leaves) against s ≡ leaf_sum player (drop (passed leaves next) leaves) against s

module _ (player : Player) (s : ℕ) (leaves : List Leaf) (against : List ℕ) (i : ℕ) (below : i < length leaves) where
  abbrev x : Leaf
  x = get_or leaves i no_leaf

  split : drop i leaves ≡ x ∷ drop (i + 1) leaves
  split = drop_more leaves i no_leaf below

  leaf_here : leaf_sum player (drop i leaves) against s
      ≡ cond (eqb (leaf_sequence player x) s) (paid_at_leaf player against x) (pos 0) +ℤ leaf_sum player (drop (i + 1) leaves) against s
  leaf_here = ap (λ zs. leaf_sum player zs against s) split ∙ leaf_more player x (drop (i + 1) leaves) against s

  sequence_here : sequence_of_leaf player (i + 1) leaves ≡ leaf_sequence player x
  sequence_here =
      let place : i + 1 - 1 ≡ i = omega arith in
      ap (slice_index (map (leaf_sequence player) leaves)) place ∙ get_or-map (leaf_sequence player) leaves i no_leaf 0 below

  by_test : IsNextBehind player s (i + 1) leaves against (first_leaf_from player s (i + 1 + 1) (drop (i + 1) leaves))
      → (b : Bool) → eqb (leaf_sequence player x) s ≡ b
      → IsNextBehind player s i leaves against (cond b (Some (i + 1)) (first_leaf_from player s (i + 1 + 1) (drop (i + 1) leaves)))
  by_test later true e =
      let place : i ≡ i + 1 - 1 = omega arith in
      record {
        on = (omega arith, omega (arith, below), sequence_here ∙ eqb-true (leaf_sequence player x) s e);
        low = omega arith;
        high = omega (arith, below);
        left = ap (λ n. leaf_sum player (drop n leaves) against s) place;
      }
  by_test later false e = record {
    on = later.on;
    low = omega (arith, later.low);
    high = later.high;
    left = leaf_here
        ∙ ap (λ b. cond b (paid_at_leaf player against x) (pos 0) +ℤ leaf_sum player (drop (i + 1) leaves) against s) e
        ∙ zero-+ℤ (leaf_sum player (drop (i + 1) leaves) against s)
        ∙ later.left;
  }

-- what the search behind the first i leaves finds, where k leaves are left
found : (player : Player) (s : ℕ) (leaves : List Leaf) (against : List ℕ) (k i : ℕ) → i + k ≡ length leaves
    → IsNextBehind player s i leaves against (first_leaf_from player s (i + 1) (drop i leaves))
found player s leaves against zero i e =
    let last : i ≡ length leaves = omega (arith, e) in
    subst (IsNextBehind player s i leaves against) (sym (ap (first_leaf_from player s (i + 1)) (drop_all i leaves (omega (arith, e)))))
    (record {
      on = tt;
      low = omega (arith, e);
      high = omega arith;
      left = ap (λ n. leaf_sum player (drop n leaves) against s) last;
    })
found player s leaves against (suc k) i e =
    let below : i < length leaves = omega (arith, e) in
    subst (IsNextBehind player s i leaves against) (sym (ap (first_leaf_from player s (i + 1)) (split player s leaves against i below)))
    (by_test player s leaves against i below (found player s leaves against k (i + 1) (omega (arith, e)))
    (eqb (leaf_sequence player (get_or leaves i no_leaf)) s) refl)

-- the next leaf of a thread after leaf z
next_behind : (player : Player) (s : ℕ) (leaves : List Leaf) (against : List ℕ) (z : ℕ) → z ≤ length leaves
    → sequence_of_leaf player z leaves ≡ s → IsNextBehind player s z leaves against (next_leaf player z leaves)
next_behind player s leaves against z high own =
    subst (λ t. IsNextBehind player s z leaves against (first_leaf_from player t (z + 1) (drop z leaves))) (sym own)
    (found player s leaves against (length leaves - z) z (omega (arith, high)))

-- the next leaf after leaf z on its own thread
pub next_behind_own : (player : Player) (leaves : List Leaf) (against : List ℕ) (z : ℕ) → z ≤ length leaves
    → IsNextBehind player (sequence_of_leaf player z leaves) z leaves against (next_leaf player z leaves)
next_behind_own player leaves against z high = next_behind player (sequence_of_leaf player z leaves) leaves against z high refl

-- the first leaf of a thread
pub first_behind : (player : Player) (s : ℕ) (leaves : List Leaf) (against : List ℕ)
    → IsNextBehind player s 0 leaves against (first_leaf player s leaves)
first_behind player s leaves against = found player s leaves against (length leaves) 0 (omega arith)

-- what stands at the next leaf of a thread is the sum of the leaves of its sequence behind the first i
module _ (player : Player) (s i : ℕ) (leaves : List Leaf) (against : List ℕ) (sums : List ℤ) where
  pub sum_behind : (next : Option ℕ) → HasSumsFrom i player leaves against sums → IsNextBehind player s i leaves against next
      → sum_on sums next ≡ leaf_sum player (drop i leaves) against s
  sum_behind None has behind =
      sym (behind.left ∙ ap (λ zs. leaf_sum player zs against s) (drop_all (length leaves) leaves (omega arith)))
  sum_behind (Some z) has behind =
      let z_is : z - 1 + 1 ≡ z = omega (arith, behind.on.0) in
      has.whole (z - 1) behind.low (omega (arith, behind.on.0, behind.on.1))
      ∙ ap (λ k. leaf_sum player (drop (z - 1) leaves) against (sequence_of_leaf player k leaves)) z_is
      ∙ ap (leaf_sum player (drop (z - 1) leaves) against) behind.on.2
      ∙ sym behind.left

  pub small_behind : (next : Option ℕ) → HasSumsFrom i player leaves against sums → IsNextBehind player s i leaves against next
      → unsigned_abs (sum_on sums next) ≤ (length leaves - i) * 2 ^ 99
  small_behind None has behind = omega arith
  small_behind (Some z) has behind =
      omega (arith, has.small (z - 1) behind.low (omega (arith, behind.on.0, behind.on.1)), behind.low, behind.on.0, behind.on.1)

  pub there_behind : (next : Option ℕ) → length sums ≡ length leaves → IsNextBehind player s i leaves against next
      → IsNumberWithin (length sums) next
  there_behind None same behind = tt
  there_behind (Some z) same behind = (behind.on.0, omega (arith, behind.on.1, same))

-- a leaf and the later ones of its thread are the leaves of its sequence from it on
pub sum_here : (player : Player) (leaves : List Leaf) (against : List ℕ) (sums : List ℤ) (z : ℕ) (y : Leaf)
    → 1 ≤ z → z ≤ length leaves → slice_get leaves (z - 1) ≡ Some y → HasSumsFrom z player leaves against sums
    → paid_at_leaf player against y +ℤ sum_on sums (next_leaf player z leaves)
    ≡ leaf_sum player (drop (z - 1) leaves) against (sequence_of_leaf player z leaves)
sum_here player leaves against sums z y low high is has =
    let below : z - 1 < length leaves = omega (arith, low, high) in
    let z_is : z - 1 + 1 ≡ z = omega (arith, low) in
    let x : Leaf = get_or leaves (z - 1) no_leaf in
    let s : ℕ = sequence_of_leaf player z leaves in
    let own : leaf_sequence player x ≡ s =
    sym (sequence_here player s leaves against (z - 1) below) ∙ ap (λ k. sequence_of_leaf player k leaves) z_is in
    let y_is : x ≡ y = get_or_from_slice_get leaves (z - 1) y no_leaf is in
    let rest : sum_on sums (next_leaf player z leaves) ≡ leaf_sum player (drop z leaves) against s =
    sum_behind player s z leaves against sums (next_leaf player z leaves) has (next_behind_own player leaves against z high) in
    let more : leaf_sum player (drop (z - 1) leaves) against s ≡ paid_at_leaf player against y +ℤ leaf_sum player (drop z leaves) against s =
    leaf_here player s leaves against (z - 1) below
    ∙ ap (λ t. t +ℤ leaf_sum player (drop (z - 1 + 1) leaves) against s)
    (cond-true (eqb (leaf_sequence player x) s) (paid_at_leaf player against x) (pos 0) (eq-eqb (leaf_sequence player x) s own)
    ∙ ap (paid_at_leaf player against) y_is)
    ∙ ap (λ k. paid_at_leaf player against y +ℤ leaf_sum player (drop k leaves) against s) z_is in
    ap (λ t. paid_at_leaf player against y +ℤ t) rest ∙ sym more

-- one leaf more has its sum
pub sums_more : (player : Player) (leaves : List Leaf) (against : List ℕ) (before now : List ℤ) (z : ℕ) → 1 ≤ z
    → HasSumsFrom z player leaves against before
    → row now (z - 1) ≡ leaf_sum player (drop (z - 1) leaves) against (sequence_of_leaf player z leaves)
    → unsigned_abs (row now (z - 1)) ≤ (length leaves - (z - 1)) * 2 ^ 99
    → ((j : ℕ) → (j ≡ z - 1 → ⊥) → row now j ≡ row before j) → HasSumsFrom (z - 1) player leaves against now
sums_more player leaves against before now z low has here small others = record {
  whole = λ j from below.
      ⊎_elim
      (λ is.
      let number : z ≡ j + 1 = omega (arith, is, low) in
      ap (row now) is ∙ here ∙ ap (λ k. leaf_sum player (drop (z - 1) leaves) against (sequence_of_leaf player k leaves)) number
      ∙ ap (λ k. leaf_sum player (drop k leaves) against (sequence_of_leaf player (j + 1) leaves)) (sym is))
      (λ apart. others j apart ∙ has.whole j (later j apart from) below)
      (cases_eq j (z - 1));
  small = λ j from below.
      ⊎_elim (λ is. subst (λ k. unsigned_abs (row now k) ≤ (length leaves - k) * 2 ^ 99) (sym is) small)
      (λ apart. subst (λ (t : ℤ). unsigned_abs t ≤ (length leaves - j) * 2 ^ 99) (sym (others j apart)) (has.small j (later j apart from) below))
      (cases_eq j (z - 1));
}
  where
    later : (j : ℕ) → (j ≡ z - 1 → ⊥) → z - 1 ≤ j → z ≤ j
    later j apart from = grind arith

-- a leaf's sequence is one of the player's
pub leaf_there : (form : SequenceForm) (player : Player) (z : ℕ) (y : Leaf) → All (HasSequences form) form.leaves
    → 1 ≤ z → z ≤ length form.leaves → slice_get form.leaves (z - 1) ≡ Some y
    → leaf_sequence player y < sequence_count (player_sets form player)
leaf_there form player z y all low high is =
    let below : z - 1 < length form.leaves = omega (arith, low, high) in
    sequence_there form player y (subst (HasSequences form) (get_or_from_slice_get form.leaves (z - 1) y y is)
    (All-get_or (HasSequences form) form.leaves (z - 1) y below all))

-- ---- rows
-- the rows before row k have what is added to them, and the others are as they were
pub record AddsBelow (k : ℕ) (before now : List ℤ) (sums : ℕ → ℤ) : Type 0 where
  pub done : (s : ℕ) → s < k → row now s ≡ row before s +ℤ sums s
  pub same : (s : ℕ) → k ≤ s → row now s ≡ row before s

added_here : (before now : List ℤ) (k s : ℕ) (x : ℤ) → AddsAt before now k x → s ≡ k → row now s ≡ row before s +ℤ x
added_here before now k s x a here =
    a s ∙ ap (λ t. row before s +ℤ t) (cond-true (eqb k s) x (pos 0) (eq-eqb k s (sym here)))

added_elsewhere : (before now : List ℤ) (k s : ℕ) (x : ℤ) → AddsAt before now k x → s ≢ k → row now s ≡ row before s
added_elsewhere before now k s x a apart =
    a s ∙ ap (λ t. row before s +ℤ t) (cond-false (eqb k s) x (pos 0) (ne_eqb k s (λ e. apart (sym e)))) ∙ +ℤ-zero (row before s)

-- one row more has its sum
pub row_more : (k : ℕ) (before now next : List ℤ) (sums : ℕ → ℤ) → AddsBelow k before now sums
    → AddsAt now next k (sums k) → AddsBelow (k + 1) before next sums
row_more k before now next sums below a = record {
  done = λ s low.
      ⊎_elim
      (λ here.
      added_here now next k s (sums k) a here ∙ ap (λ t. t +ℤ sums k) (below.same s (omega (arith, here)))
      ∙ ap (λ t. row before s +ℤ t) (ap sums (sym here)))
      (λ apart. added_elsewhere now next k s (sums k) a apart ∙ below.done s (lower s k apart low))
      (cases_eq s k);
  same = λ s high. added_elsewhere now next k s (sums k) a (λ e. absurd (omega (arith, e, high))) ∙ below.same s (omega (arith, high));
}
  where
    lower : (s k : ℕ) → (s ≡ k → ⊥) → s < k + 1 → s < k
    lower s k apart low = grind arith

-- rows that were 0, each with what was added once, are within its size
pub row_stays_small : (k : ℕ) (before now next : List ℤ) (sums : ℕ → ℤ) (most : ℕ) → AreAllWithin 0 before
    → AddsBelow k before now sums → AreAllWithin most now → AddsAt now next k (sums k) → unsigned_abs (sums k) ≤ most
    → AreAllWithin most next
row_stays_small k before now next sums most none below small a size s =
    ⊎_elim
    (λ here.
    omega (
      arith,
      ap unsigned_abs (added_here now next k s (sums k) a here),
      unsigned_abs-+ℤ (row now s) (sums k),
      ap unsigned_abs (below.same s (omega (arith, here))),
      none s,
      size,
    ))
    (λ apart. omega (arith, ap unsigned_abs (added_elsewhere now next k s (sums k) a apart), small s))
    (cases_eq s k)

-- no leaf has a sequence past the player's last one
no_such_leaf : (form : SequenceForm) (player : Player) (against : List ℕ) (s : ℕ) (leaves : List Leaf)
    → All (HasSequences form) leaves → sequence_count (player_sets form player) ≤ s
    → leaf_sum player leaves against s ≡ pos 0
no_such_leaf form player against s [] all past = refl
no_such_leaf form player against s (z ∷ zs) all past =
    let there : leaf_sequence player z < sequence_count (player_sets form player) = sequence_there form player z (All-head (HasSequences form) z zs all) in
    leaf_more player z zs against s
    ∙ ap (λ t. t +ℤ leaf_sum player zs against s) (cond-false (eqb (leaf_sequence player z) s) (paid_at_leaf player against z) (pos 0)
    (ne_eqb (leaf_sequence player z) s (λ e. absurd (omega (arith, e, there, past)))))
    ∙ zero-+ℤ (leaf_sum player zs against s)
    ∙ no_such_leaf form player against s zs (All-tail (HasSequences form) z zs all) past

-- with all rows done, each has its leaf sum
pub all_rows : (form : SequenceForm) (player : Player) (against : List ℕ) (k : ℕ) (before now : List ℤ)
    → All (HasSequences form) form.leaves → sequence_count (player_sets form player) ≤ k
    → AddsBelow k before now (leaf_sum player form.leaves against) → (s : ℕ)
    → row now s ≡ row before s +ℤ leaf_sum player form.leaves against s
all_rows form player against k before now all last below s =
    ⊎_elim (λ low. below.done s low)
    (λ past.
    below.same s past ∙ sym (+ℤ-zero (row before s))
    ∙ ap (λ t. row before s +ℤ t) (sym (no_such_leaf form player against s form.leaves all (omega (arith, last, past)))))
    (cases_lt s k)
