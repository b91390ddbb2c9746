-- How large the numbers of a plan and the leaf sums against it are.
use Rattle.std.proofs.Common.{◌≡◌, ℕ, zero, suc, ◌+◌, ◌*◌, ◌^◌, ◌≤◌, ◌<◌, eqb, List, [], ◌∷◌, slice_index, get_or, filter, All, ℤ, pos, ◌*ℤ◌, unsigned_abs}
use Rattle.std.proofs.Common.{arith, ap, ⊎_elim}
use Rattle.std.proofs.Math.Nat.{mul-le-mul, mul-le-mul_left}
use Rattle.std.proofs.lemmas.Int.{unsigned_abs-mul}
use Rattle.std.proofs.lemmas.Bool.{cases_lt}
use Rattle.std.proofs.lemmas.List.{get_or_past}
use Rattle.std.proofs.lemmas.List.Elements.{All-head, All-tail}
use Rattle.def_tree.specs.declared.Player.{Player}
use Rattle.def_tree.specs.Opponent.{opponent}
use Rattle.def_sums.specs.Sum.{nat_sum_over}
use Rattle.def_sums.proofs.SumLaws.{unsigned_abs-sum_over, nat_sum_over-mono, nat_sum_over-factor}
use Rattle.def_sums.proofs.Ranges.{at_most_sum, nat_gathered}
use Rattle.def_sums.specs.Limits.{most_mass, most_scale, most_root}
use Rattle.def_plan.specs.Form.{InformationSet, PlacedSet, placed_from, sequence_count, sequences, IsInOrder, AreInOrder, Leaf, leaf_sequence}
use Rattle.def_plan.specs.Plan.{AddsUp, IsPlan}
use Rattle.def_plan.specs.Payoff.{leaf_sum, mass_of}

-- no number that is read of a list exceeds what none of its numbers exceeds
pub slice_index-at_most : (most : ℕ) (xs : List ℕ) → All (λ n. n ≤ most) xs → (s : ℕ) → slice_index xs s ≤ most
slice_index-at_most most [] all zero = omega arith
slice_index-at_most most [] all (suc s) = omega arith
slice_index-at_most most (x ∷ xs) all zero = All-head (λ n. n ≤ most) x xs all
slice_index-at_most most (x ∷ xs) all (suc s) = slice_index-at_most most xs (All-tail (λ n. n ≤ most) x xs all) s

below : (root first : ℕ) (x : List ℕ) (hs : List InformationSet) → All IsInOrder (placed_from first hs)
    → All (AddsUp x) (placed_from first hs)
    → ((s : ℕ) → s < first → slice_index x s ≤ root) → (s : ℕ) → s < first + nat_sum_over (λ h. h.actions) hs
    → slice_index x s ≤ root
below root first x [] order sums h s low = h s (omega arith)
below root first x (g ∷ gs) order sums h s low =
    let here : PlacedSet = record { first = first; before = g.before; actions = g.actions } in
    let rest = placed_from (first + g.actions) gs in
    let ordered = All-head IsInOrder here rest order in
    let adds = All-head (AddsUp x) here rest sums in
    let at_before : slice_index x g.before ≤ root = h g.before ordered.1 in
    below root (first + g.actions) x gs (All-tail IsInOrder here rest order) (All-tail (AddsUp x) here rest sums)
    (λ t less. ⊎_elim (λ earlier. h t earlier) (λ at. let one_of = at_most_sum (λ s. slice_index x s) first g.actions t at less in omega arith)
    (cases_lt t first))
    s (omega arith)

-- no number of a plan is greater than its root
pub plan-below_root : (sets : List InformationSet) (root : ℕ) (x : List ℕ) → AreInOrder sets → IsPlan sets root x
    → (s : ℕ) → slice_index x s ≤ root
plan-below_root sets root x order p s =
    ⊎_elim
    (λ low. below root 1 x sets order p.each_set (λ t first. let none : t ≡ 0 = omega arith in omega (arith, p.root_weight, ap (λ k. slice_index x k) none)) s
    low)
    (λ past. omega (arith, get_or_past x s 0 (omega (arith, p.all_sequences))))
    (cases_lt s (sequence_count sets))

pub one_leaf : (w : ℤ) (n root : ℕ) → n ≤ root → unsigned_abs (w *ℤ pos n) ≤ unsigned_abs w * root
one_leaf w n root h = omega (arith, unsigned_abs-mul w (pos n), mul-le-mul_left (unsigned_abs w) h)

-- the leaf sums against a plan are together at most the leaves' mass times the plan's root
pub leaf_sums-below : (player : Player) (leaves : List Leaf) (sets against_sets : List InformationSet) (root : ℕ)
    (x : List ℕ)
    → AreInOrder against_sets → IsPlan against_sets root x
    → nat_sum_over (λ s. unsigned_abs (leaf_sum player leaves x s)) (sequences sets) ≤ mass_of leaves * root
leaf_sums-below player leaves sets against_sets root x order p =
    let size : Leaf → ℕ = λ z. unsigned_abs z.weight * root in
    let amount : Leaf → ℤ = λ z. z.weight *ℤ pos (slice_index x (leaf_sequence (opponent player) z)) in
    let of_one : (s : ℕ) → unsigned_abs (leaf_sum player leaves x s) ≤ nat_sum_over size (filter (λ z. eqb (leaf_sequence player z) s) leaves) =
    λ s.
    let kept = filter (λ z. eqb (leaf_sequence player z) s) leaves in
    omega (
      arith,
      unsigned_abs-sum_over amount kept,
      nat_sum_over-mono (λ z. unsigned_abs (amount z)) size kept
          (λ k d low. let z : Leaf = get_or kept k d in one_leaf z.weight (slice_index x (leaf_sequence (opponent player) z)) root
          (plan-below_root against_sets root x order p (leaf_sequence (opponent player) z))),
    )
    in
    omega (
      arith,
      nat_sum_over-mono (λ s. unsigned_abs (leaf_sum player leaves x s)) (λ s. nat_sum_over size (filter (λ z. eqb (leaf_sequence player z) s) leaves))
          (sequences sets) (λ k d low. of_one (get_or (sequences sets) k d)),
      nat_gathered (leaf_sequence player) size 0 (sequence_count sets) leaves,
      nat_sum_over-factor root (λ z. unsigned_abs z.weight) leaves,
    )

-- under a round's limits the mass times the root is at most 2 ^ 82
pub of_a_round : (leaves : List Leaf) (root : ℕ) → mass_of leaves ≤ most_mass → root ≤ most_scale
    → mass_of leaves * root ≤ 2 ^ 82
of_a_round leaves root h k = mul-le-mul h k

-- under an evaluation's limits the mass times the root is at most 2 ^ 98
pub of_an_evaluation : (leaves : List Leaf) (root : ℕ) → mass_of leaves ≤ most_mass → root ≤ most_root
    → mass_of leaves * root ≤ 2 ^ 98
of_an_evaluation leaves root h k = mul-le-mul h k
