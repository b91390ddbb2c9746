-- One round of one player, at one set: what it adds to the regrets, and what the dealt plan costs.
use Rattle.std.proofs.Common.{◌≡◌, ℕ, zero, suc, ◌+◌, ◌-◌, ◌*◌, ◌/◌, ◌≤◌, ◌<◌, ◌⊎◌, inl, inr}
use Rattle.std.proofs.Common.{leb, List, [], ◌∷◌, length, slice_index, All, arith, ap, sym, ◌∙◌, subst, ⊎_elim}
use Rattle.std.specs.Prelude.{ℤ, pos, ◌+ℤ◌, ◌-ℤ◌, ◌*ℤ◌, ◌≤ℤ◌, neg_ℤ}
use Rattle.std.specs.List.{range_with_len}
use Rattle.std.proofs.lemmas.Int.{ints}
use Rattle.std.proofs.lemmas.Bool.{cases_lt, cond_both, leb-true}
use Rattle.std.proofs.lemmas.List.FromFn.{length-range_with_len}
use Rattle.std.proofs.Math.Nat.{mul-le-mul_left}
use Rattle.def_sums.specs.Sum.{sum_over, nat_sum_over}
use Rattle.def_sums.proofs.RingLaws.{*ℤ-+ℤ, +ℤ-*ℤ, *ℤ_comm, neg-*ℤ}
use Rattle.def_sums.proofs.SumLaws.{nat_sum_over-same}
use Rattle.def_sums.proofs.Ranges.{All-range, at_most_sum}
use Rattle.def_plan.specs.Form.{PlacedSet, sequences_of}
use Rattle.def_round.specs.Play.{units, positive_part, regret_of, regret_sum, IsSequenceOf}
use Rattle.def_round.specs.Round.{set_value}
use Rattle.def_round.specs.Laws.{IsInProportion}
use Rattle.def_round.proofs.Averages.{set_values_are_averages}
use Rattle.def_closing.specs.Width.{root_up, spread_sum, drift}
use Rattle.def_closing.proofs.Roots.{roots_are_up}
use Rattle.def_closing.proofs.Potential.{potential, size_of}
use Rattle.def_closing.proofs.Sizes.{IsGrowth, sizes_within, squares_within}
use Rattle.def_closing.proofs.SetBound.{positive_sum, products_are_small, nothing_is_small, potential-step}
use Rattle.def_closing.proofs.SetBound.{positive_sum-le, potential_after, potential_after-square, potential_after-step}

-- what a value takes from an average
less_value : (p : ℕ → ℕ) (w : ℕ → ℤ) (v : ℤ) (xs : List ℕ)
    → sum_over (λ s. pos (p s) *ℤ (w s -ℤ v)) xs +ℤ v *ℤ pos (nat_sum_over p xs) ≡ sum_over (λ s. pos (p s) *ℤ w s) xs
less_value p w v [] = omega (arith, ints)
less_value p w v (x ∷ xs) =
    omega (
      arith,
      ints,
      less_value p w v xs,
      *ℤ-+ℤ (pos (p x)) (w x) (neg_ℤ v),
      *ℤ_comm (pos (p x)) (neg_ℤ v),
      neg-*ℤ v (pos (p x)),
      *ℤ-+ℤ v (pos (p x))
          (pos (nat_sum_over p xs)),
    )

-- what a round adds at a set whose values are not far apart
pub value_growth : (play : List ℕ) (w : ℕ → ℤ) (h : PlacedSet) (l : ℕ)
    → nat_sum_over (λ s. slice_index play s) (sequences_of h) ≡ units
    → ((s t : ℕ) → IsSequenceOf h s → IsSequenceOf h t → w s ≤ℤ (w t +ℤ pos l))
    → IsGrowth units (λ s. slice_index play s) (λ s. w s -ℤ set_value play w h) l h.first h.actions
value_growth play w h l all near =
    let v : ℤ = set_value play w h in
    let is = set_values_are_averages play w h in
    let less = less_value (λ s. slice_index play s) w v (sequences_of h) in
    let whole : v *ℤ pos (nat_sum_over (λ s. slice_index play s) (sequences_of h)) ≡ v *ℤ pos units = ap (λ n. v *ℤ pos n) all in
    let next = +ℤ-*ℤ v (pos 1) (pos units) in
    record {
      some = omega arith;
      all_units = all;
      not_below = omega (arith, ints, is.at_most, less, whole);
      below_one = omega (arith, ints, is.above, less, whole, next);
      none_apart = λ s t is_s is_t. omega (arith, ints, near s t is_s is_t);
    }

-- ---- the play is near the positive regrets
pub play_near : (regrets : List ℤ) (play : List ℕ) (h : PlacedSet) → IsInProportion regrets play h
    → All (λ s. units * positive_part (regret_of regrets s)
    ≤ positive_sum (regret_of regrets) (sequences_of h) * slice_index play s + positive_sum (regret_of regrets) (sequences_of h)) (sequences_of h)
play_near regrets play h is =
    All-range (λ s. units * positive_part (regret_of regrets s)
    ≤ positive_sum (regret_of regrets) (sequences_of h) * slice_index play s + positive_sum (regret_of regrets) (sequences_of h)) h.first h.actions
    (λ s low high.
    let one = at_most_sum (λ s. positive_part (regret_of regrets s)) h.first h.actions s low high in
    ⊎_elim
    (λ (some : 0 < regret_sum regrets h). let near = is.each_action s (low, high) (omega arith) in omega (arith, near.above))
    (λ (none : regret_sum regrets h ≤ 0). let zero' : positive_part (regret_of regrets s) ≡ 0 = omega arith in omega arith)
    (cases_lt 0 (regret_sum regrets h)))

pub play_near_below : (regrets : List ℤ) (play : List ℕ) (h : PlacedSet) → IsInProportion regrets play h
    → All (λ s. positive_sum (regret_of regrets) (sequences_of h) * slice_index play s
    ≤ units * positive_part (regret_of regrets s) + positive_sum (regret_of regrets) (sequences_of h)) (sequences_of h)
play_near_below regrets play h is =
    All-range (λ s. positive_sum (regret_of regrets) (sequences_of h) * slice_index play s
    ≤ units * positive_part (regret_of regrets s) + positive_sum (regret_of regrets) (sequences_of h)) h.first h.actions (λ s low high.
    ⊎_elim
    (λ (some : 0 < regret_sum regrets h). let near = is.each_action s (low, high) (omega arith) in omega (arith, near.below))
    (λ (none : regret_sum regrets h ≤ 0). let nothing : regret_sum regrets h * slice_index play s
    ≡ 0 * slice_index play s = ap (λ n. n * slice_index play s) (omega arith) in omega arith)
    (cases_lt 0 (regret_sum regrets h)))

-- ---- what the spread allows
drift-enough : (a : ℕ) → a + units ≤ ((a + (units + units - 1)) / units) * units
drift-enough a = omega arith

-- the squares of what a round adds, and what bounds them over all rounds
abbrev pub square_bound : ℕ → (PlacedSet → ℕ) → PlacedSet → ℕ
square_bound root spread h = root * spread h * ((h.actions - 1) * (root * spread h))

abbrev pub side_bound : ℕ → ℕ → (PlacedSet → ℕ) → PlacedSet → ℕ
side_bound root last spread h = root * spread h * root_up (last * (h.actions - 1))

-- enough drift for the roundings, where there are any
abbrev IsEnough : ℕ → ℕ → ℕ → ℕ → Type 0
IsEnough u n l c = ((n - 1) * l + u ≤ c * u) ⊎ (n ≤ 1)

drift-is : (root : ℕ) (spread : PlacedSet → ℕ) (h : PlacedSet) → IsEnough units h.actions (root * spread h) (drift root spread h)
drift-is root spread h =
    let e : (h.actions - 1) * (root * spread h) ≡ root * spread_sum spread h = omega arith in
    cond_both (leb h.actions 1) 0 ((root * spread_sum spread h + (units + units - 1)) / units) (IsEnough units h.actions (root * spread h))
    (λ few. inr (leb-true h.actions 1 few))
    (λ more. inl (subst (λ a. a + units ≤ ((root * spread_sum spread h + (units + units - 1)) / units) * units) (sym e)
    (drift-enough (root * spread_sum spread h))))

pub others-sum : (n l size : ℕ) → 1 ≤ n → size + l ≤ n * l → size ≤ (n - 1) * l
others-sum (suc k) l size some le = let e : suc k - 1 ≡ k = omega arith in subst (λ j. size ≤ j * l) (sym e) (omega arith)
others-sum zero l size some le = absurd (omega arith)

-- one action alone leaves nothing
single : (n l : ℕ) → n ≤ 1 → (n - 1) * l ≡ 0
single n l few =
    let none : n - 1 ≡ 0 = omega arith in
    let nothing : 0 * l ≡ 0 = omega arith in
    ap (λ k. k * l) none ∙ nothing

-- a round's step at a set, in numbers
pub plain_step : (u : ℕ) (r d : ℕ → ℤ) (p : ℕ → ℕ) (l first n last t c m side : ℕ)
    → 1 ≤ n → t ≤ last → IsGrowth u p d l first n
    → All (λ s. u * positive_part (r s) ≤ positive_sum r (range_with_len first n) * p s + positive_sum r (range_with_len first n)) (range_with_len first n)
    → All (λ s. positive_sum r (range_with_len first n) * p s ≤ u * positive_part (r s) + positive_sum r (range_with_len first n)) (range_with_len first n)
    → IsEnough u n l c → n ≤ m * m → last * (n - 1) ≤ side * side
    → potential r (range_with_len first n) ≤ potential_after t (l * ((n - 1) * l)) (l * side) (c * m)
    → potential (λ s. r s +ℤ d s) (range_with_len first n) ≤ potential_after (t + 1) (l * ((n - 1) * l)) (l * side) (c * m)
plain_step u r d p l first n last t c m side some early is up down enough wide long so_far =
    let xs : List ℕ = range_with_len first n in
    let q : ℕ = l * ((n - 1) * l) in
    let e : ℕ = l * side in
    let size : size_of d xs ≤ (n - 1) * l = others-sum n l (size_of d xs) some (sizes_within u p d l first n is) in
    let square : l * size_of d xs ≤ q = mul-le-mul_left l size in
    let squares = squares_within u p d l first n is in
    let row : length xs ≤ m * m = omega (arith, length-range_with_len first n) in
    let horizon : (l * l) * (last * (n - 1)) ≤ (l * l) * (side * side) = mul-le-mul_left (l * l) long in
    let enough_e : last * q ≤ e * e = omega arith in
    let products : sum_over (λ s. pos (positive_part (r s)) *ℤ d s) xs ≤ℤ pos (c * positive_sum r xs) =
    ⊎_elim
    (λ (enough : (n - 1) * l + u ≤ c * u). products_are_small u r d p xs c is.some up down (omega (arith, ints, is.below_one)) (omega arith))
    (λ (few : n ≤ 1). nothing_is_small r d xs c (omega (arith, single n l few)))
    enough in
    let step = potential-step r d xs c q products (omega (arith, ints, squares)) in
    let root = potential_after-square t last q e (c * m) early enough_e in
    potential_after-step t last q e c m (potential r xs) (potential (λ s. r s +ℤ d s) xs) (positive_sum r xs) early enough_e so_far
    (positive_sum-le r xs m (e + t * (c * m)) row (omega arith)) step

-- a round's step at a set
pub set_step : (root last t : ℕ) (spread : PlacedSet → ℕ) (h : PlacedSet) (play : List ℕ) (w : ℕ → ℤ) (v : ℤ) (before after : List ℤ)
    → 1 ≤ h.actions → t ≤ last
    → nat_sum_over (λ s. slice_index play s) (sequences_of h) ≡ units
    → IsInProportion before play h
    → v ≡ set_value play w h
    → ((s t : ℕ) → IsSequenceOf h s → IsSequenceOf h t → w s ≤ℤ (w t +ℤ pos (root * spread h)))
    → All (λ s. regret_of after s ≡ regret_of before s +ℤ (w s -ℤ v)) (sequences_of h)
    → potential (regret_of before) (sequences_of h)
    ≤ potential_after t (square_bound root spread h) (side_bound root last spread h) (drift root spread h * root_up h.actions)
    → potential (regret_of after) (sequences_of h)
    ≤ potential_after (t + 1) (square_bound root spread h) (side_bound root last spread h) (drift root spread h * root_up h.actions)
set_step root last t spread h play w v before after some early all shared is_value near grown so_far =
    let l : ℕ = root * spread h in
    let d : ℕ → ℤ = λ s. w s -ℤ v in
    let is : IsGrowth units (λ s. slice_index play s) d l h.first h.actions =
    subst (λ z. IsGrowth units (λ s. slice_index play s) (λ s. w s -ℤ z) l h.first h.actions) (sym is_value) (value_growth play w h l all near) in
    let same : potential (regret_of after) (sequences_of h) ≡ potential (λ s. regret_of before s +ℤ d s) (sequences_of h) =
    nat_sum_over-same (λ s. positive_part (regret_of after s) * positive_part (regret_of after s))
    (λ s. positive_part (regret_of before s +ℤ d s) * positive_part (regret_of before s +ℤ d s)) (sequences_of h)
    (λ k a low. ap (λ z. positive_part z * positive_part z) (grown k a low)) in
    subst (λ n. n ≤ potential_after (t + 1) (square_bound root spread h) (side_bound root last spread h) (drift root spread h * root_up h.actions)) (sym same)
    (plain_step units (regret_of before) d (λ s. slice_index play s) l h.first h.actions last t (drift root spread h) (root_up h.actions)
    (root_up (last * (h.actions - 1)))
    some early is (play_near before play h shared) (play_near_below before play h shared) (drift-is root spread h) (roots_are_up h.actions)
    (roots_are_up (last * (h.actions - 1))) so_far)
