-- Threads that are linked from the last leaf to the first.
use Rattle.std.proofs.Common.{◌≡◌, ℕ, suc, ◌+◌, ◌-◌, ◌<◌, ◌≤◌, ◌≢◌, All, Bool, true, false, cond, eqb, List, [], ◌∷◌, length, get_or, set, map, drop, refl, ap}
use Rattle.std.proofs.Common.{sym, subst, ◌∙◌, arith, ⊎_elim, eq-eqb, get_or-set_other, get_or-set_same, Some, length-set}
use Rattle.std.specs.Prelude.{slice_index}
use Rattle.std.proofs.Math.Seq.{drop-cons, drop-length}
use Rattle.std.proofs.lemmas.Bool.{cases_eq, ne_eqb, cond-true, cond-false}
use Rattle.std.proofs.lemmas.List.{get_or-map, length-map}
use Rattle.def_tree.specs.declared.Player.{Player}
use Rattle.def_tree.specs.Rules.{most_nodes}
use Rattle.def_plan.specs.Form.{InformationSet, Leaf as FormLeaf, SequenceForm, leaf_sequence, player_sets, sequence_count}
use Rattle.def_plan.specs.Threads.{first_leaf_from, next_leaf, sequence_of_leaf}
use Rattle.xg_seq.specs.declared.leaf.Leaf.{Leaf}
use Rattle.xg_seq.specs.Leaves.{HasSequences, KeepsLeaves, form_with, leaf_of}
use Rattle.xg_seq.proofs.FormLemmas.{sequence_there}
use Rattle.xg_seq.specs.Threads.{KeepsThreads, LinksLeavesFrom, leaf_of_number, leaf_or_zero}

-- behind the last leaf there is none
pub none_linked : (player : Player) (leaves : List FormLeaf) (first next : List ℕ) (n : ℕ) → n ≡ length leaves
    → ((s : ℕ) → s < length first → slice_index first s ≡ 0)
    → LinksLeavesFrom n player leaves first next
none_linked player leaves first next n last none =
    let past : drop n leaves ≡ [] = ap (λ k. drop k leaves) last ∙ drop-length leaves in
    record {
      first_leaves = λ s below. none s below ∙ sym (ap (λ zs. leaf_or_zero (first_leaf_from player s (n + 1) zs)) past);
      next_leaves = λ j low high. absurd (omega arith);
    }

module _ (i s : ℕ) (player : Player) (leaves : List FormLeaf) (d : FormLeaf) (below : i < length leaves)
    (is : s ≡ leaf_sequence player (get_or leaves i d)) where
  split : drop i leaves ≡ get_or leaves i d ∷ drop (i + 1) leaves
  split = let next : suc i ≡ i + 1 = omega arith in drop-cons leaves i d below ∙ ap (λ k. get_or leaves i d ∷ drop k leaves) next

  with_more : (t : ℕ)
      → first_leaf_from player t (i + 1) (drop i leaves)
      ≡ cond (eqb (leaf_sequence player (get_or leaves i d)) t) (Some (i + 1)) (first_leaf_from player t (i + 1 + 1) (drop (i + 1) leaves))
  with_more t = ap (first_leaf_from player t (i + 1)) split

  -- the leaf is the first of its own sequence
  own_first : first_leaf_from player s (i + 1) (drop i leaves) ≡ Some (i + 1)
  own_first = with_more s ∙ cond-true (eqb (leaf_sequence player (get_or leaves i d)) s) (Some (i + 1))
      (first_leaf_from player s (i + 1 + 1) (drop (i + 1) leaves)) (eq-eqb (leaf_sequence player (get_or leaves i d)) s (sym is))

  -- and the others begin behind it
  other_first : (t : ℕ) → s ≢ t
      → first_leaf_from player t (i + 1) (drop i leaves) ≡ first_leaf_from player t (i + 1 + 1) (drop (i + 1) leaves)
  other_first t apart = with_more t ∙ cond-false (eqb (leaf_sequence player (get_or leaves i d)) t) (Some (i + 1))
      (first_leaf_from player t (i + 1 + 1) (drop (i + 1) leaves)) (ne_eqb (leaf_sequence player (get_or leaves i d)) t (λ e. apart (is ∙ e)))

  own_sequence : sequence_of_leaf player (i + 1) leaves ≡ s
  own_sequence =
      let place : i + 1 - 1 ≡ i = omega arith in
      ap (slice_index (map (leaf_sequence player) leaves)) place ∙ get_or-map (leaf_sequence player) leaves i d 0 below ∙ sym is

  -- one leaf more is linked
  pub linked_more : (first next : List ℕ) → i < length next → s < length first
      → LinksLeavesFrom (i + 1) player leaves first next
      → LinksLeavesFrom i player leaves (set first s (i + 1)) (set next i (slice_index first s))
  linked_more first next there known linked = record {
    first_leaves = λ t inside.
        let under : t < length first = omega (arith, length-set first s (i + 1)) in
        ⊎_elim
        (λ here.
        ap (λ k. slice_index (set first s (i + 1)) k) here ∙ get_or-set_same first s (i + 1) 0 known
        ∙ sym (ap leaf_or_zero (ap (λ k. first_leaf_from player k (i + 1) (drop i leaves)) here ∙ own_first)))
        (λ apart.
        get_or-set_other first s t (i + 1) 0 apart ∙ linked.first_leaves t under
        ∙ sym (ap leaf_or_zero (other_first t (λ e. apart (sym e)))))
        (cases_eq t s);
    next_leaves = λ j low high.
        ⊎_elim
        (λ here.
        ap (λ k. slice_index (set next i (slice_index first s)) k) here ∙ get_or-set_same next i (slice_index first s) 0 there
        ∙ linked.first_leaves s known
        ∙ sym (ap (λ k. leaf_or_zero (next_leaf player (k + 1) leaves)) here
        ∙ ap (λ k. leaf_or_zero (first_leaf_from player k (i + 1 + 1) (drop (i + 1) leaves))) own_sequence))
        (λ apart.
        get_or-set_other next i j (slice_index first s) 0 apart ∙ linked.next_leaves j (later i j apart low) high)
        (cases_eq j i);
  }
    where
      later : (i j : ℕ) → (j ≡ i → ⊥) → i ≤ j → i + 1 ≤ j
      later i j apart low = grind arith

-- with all leaves linked, the threads are kept
pub all_linked : (player : Player) (count : ℕ) (leaves : List FormLeaf) (first next : List ℕ) → length first ≡ count
    → length next ≡ length leaves
    → LinksLeavesFrom 0 player leaves first next → KeepsThreads player count leaves first next
all_linked player count leaves first next many room linked = record {
  first_count = many;
  next_count = room;
  first_leaves = λ s below. linked.first_leaves s (omega arith);
  next_leaves = λ z low high.
      let z_is : z - 1 + 1 ≡ z = omega arith in
      linked.next_leaves (z - 1) (omega arith) (omega arith) ∙ ap (λ k. leaf_or_zero (next_leaf player k leaves)) z_is;
}

-- a leaf by its kept number
pub read_from : (player : Player) (s z : ℕ) (leaves : List FormLeaf) → 1 ≤ z
    → leaf_of_number (leaf_or_zero (first_leaf_from player s z leaves)) ≡ first_leaf_from player s z leaves
read_from player s z [] some = refl
read_from player s z (x ∷ xs) some = by_test (read_from player s (z + 1) xs (omega arith)) (eqb (leaf_sequence player x) s)
  where
    by_test : leaf_of_number (leaf_or_zero (first_leaf_from player s (z + 1) xs)) ≡ first_leaf_from player s (z + 1) xs
        → (b : Bool)
        → leaf_of_number (leaf_or_zero (cond b (Some z) (first_leaf_from player s (z + 1) xs)))
        ≡ cond b (Some z) (first_leaf_from player s (z + 1) xs)
    by_test later true = let z_is : suc (z - 1) ≡ z = omega arith in subst (λ k. leaf_of_number k ≡ Some k) z_is refl
    by_test later false = later

-- the sequences of a form's leaves are below the number of the player's sequences
pub sequences_below : (one two : List InformationSet) (leaves : List Leaf) (player : Player) (count : ℕ)
    → KeepsLeaves (form_with one two leaves) → count ≡ sequence_count (player_sets (form_with one two leaves) player)
    → All (λ (z : Leaf). leaf_sequence player (leaf_of z) < count) leaves
sequences_below one two leaves player count keeps is k d low =
    let form : SequenceForm = form_with one two leaves in
    let many = length-map leaves leaf_of in
    let has : HasSequences form (leaf_of (get_or leaves k d)) =
    subst (HasSequences form) (get_or-map leaf_of leaves k d (leaf_of d) low) (keeps.sequences k (leaf_of d) (omega arith)) in
    omega (arith, sequence_there form player (leaf_of (get_or leaves k d)) has)

-- nor are there too many leaves
pub leaves_in_limit : (one two : List InformationSet) (leaves : List Leaf) → KeepsLeaves (form_with one two leaves)
    → length leaves ≤ most_nodes
leaves_in_limit one two leaves keeps = omega (arith, keeps.count, length-map leaves leaf_of)
