-- What the sums of plans pay against any plan: what the regrets gain, and the worth of the rounds.
use Rattle.std.proofs.Common.{◌≡◌, ℕ, ◌+◌, ◌*◌, ◌≤◌, List, [], ◌∷◌, length, slice_index, replicate, All, arith, ap, ◌∙◌, refl}
use Rattle.std.specs.Prelude.{ℤ, pos, ◌+ℤ◌, ◌*ℤ◌, ◌≤ℤ◌}
use Rattle.std.proofs.lemmas.Int.{ints}
use Rattle.std.proofs.lemmas.List.Elements.{All-head, All-tail}
use Rattle.std.proofs.Math.Nat.{mul-le-mul_left}
use Rattle.def_sums.specs.Sum.{sum_over, nat_sum_over}
use Rattle.def_sums.proofs.RingLaws.{*ℤ-+ℤ, *ℤ-zero, *ℤ-mono_right, zero-*ℤ}
use Rattle.def_plan.specs.Form.{InformationSet, PlacedSet, placed, sequences_of, AreInOrder, Leaf}
use Rattle.def_plan.specs.Plan.{IsPlan, AddsUp, added}
use Rattle.def_plan.specs.Payoff.{gain, pay}
use Rattle.def_plan.proofs.Adding.{at-added}
use Rattle.def_plan.proofs.SizeLaws.{plan-below_root}
use Rattle.def_round.specs.Play.{regret_of}
use Rattle.def_plan.proofs.Duality.{at_sets}
use Rattle.def_closing.proofs.Identity.{no_regret_of_empty}
use Rattle.def_plus.proofs.PlusSums.{zeros}

-- ---- what plans pay is linear in each
pay_one_more : (w : ℤ) (a b c : ℕ) → w *ℤ pos (a * (b + c)) ≡ w *ℤ pos (a * b) +ℤ w *ℤ pos (a * c)
pay_one_more w a b c = ap (λ n. w *ℤ pos n) (omega arith) ∙ *ℤ-+ℤ w (pos (a * b)) (pos (a * c))

pub pay-added_two : (leaves : List Leaf) (x y z : List ℕ) → length y ≡ length z
    → pay leaves x (added y z) ≡ pay leaves x y +ℤ pay leaves x z
pay-added_two [] x y z e = omega (arith, ints)
pay-added_two (l ∷ ls) x y z e =
    let here : l.weight *ℤ pos (slice_index x l.sequence_one * slice_index (added y z) l.sequence_two)
    ≡ l.weight *ℤ pos (slice_index x l.sequence_one * (slice_index y l.sequence_two + slice_index z l.sequence_two)) =
    ap (λ n. l.weight *ℤ pos (slice_index x l.sequence_one * n)) (at-added y z l.sequence_two e) in
    omega (
      arith,
      ints,
      here,
      pay_one_more l.weight (slice_index x l.sequence_one) (slice_index y l.sequence_two) (slice_index z l.sequence_two),
      pay-added_two
          ls x y z e,
    )

pay_one_more_left : (w : ℤ) (a b c : ℕ) → w *ℤ pos ((a + b) * c) ≡ w *ℤ pos (a * c) +ℤ w *ℤ pos (b * c)
pay_one_more_left w a b c = ap (λ n. w *ℤ pos n) (omega arith) ∙ *ℤ-+ℤ w (pos (a * c)) (pos (b * c))

pub pay-added_one : (leaves : List Leaf) (x y z : List ℕ) → length x ≡ length y
    → pay leaves (added x y) z ≡ pay leaves x z +ℤ pay leaves y z
pay-added_one [] x y z e = omega (arith, ints)
pay-added_one (l ∷ ls) x y z e =
    let here : l.weight *ℤ pos (slice_index (added x y) l.sequence_one * slice_index z l.sequence_two)
    ≡ l.weight *ℤ pos ((slice_index x l.sequence_one + slice_index y l.sequence_one) * slice_index z l.sequence_two) =
    ap (λ n. l.weight *ℤ pos (n * slice_index z l.sequence_two)) (at-added x y l.sequence_one e) in
    omega (
      arith,
      ints,
      here,
      pay_one_more_left l.weight (slice_index x l.sequence_one) (slice_index y l.sequence_one) (slice_index z l.sequence_two),
      pay-added_one ls x y z e,
    )

pub pay-cleared_two : (leaves : List Leaf) (x : List ℕ) (n : ℕ) → pay leaves x (replicate n 0) ≡ pos 0
pay-cleared_two [] x n = refl
pay-cleared_two (l ∷ ls) x n =
    let here : l.weight *ℤ pos (slice_index x l.sequence_one * slice_index (replicate n 0) l.sequence_two) ≡ pos 0 =
    ap (λ k. l.weight *ℤ pos (slice_index x l.sequence_one * k)) (zeros n l.sequence_two) ∙ ap (λ k. l.weight *ℤ pos k) (omega arith) ∙ *ℤ-zero l.weight in
    omega (arith, ints, here, pay-cleared_two ls x n)

pub pay-cleared_one : (leaves : List Leaf) (n : ℕ) (x : List ℕ) → pay leaves (replicate n 0) x ≡ pos 0
pay-cleared_one [] n x = refl
pay-cleared_one (l ∷ ls) n x =
    let here : l.weight *ℤ pos (slice_index (replicate n 0) l.sequence_one * slice_index x l.sequence_two) ≡ pos 0 =
    ap (λ k. l.weight *ℤ pos (k * slice_index x l.sequence_two)) (zeros n l.sequence_one) ∙ ap (λ k. l.weight *ℤ pos k) (omega arith) ∙ *ℤ-zero l.weight in
    omega (arith, ints, here, pay-cleared_one ls n x)

pub gain-none : (sums : ℕ → ℤ) (xs x : List ℕ) → ((s : ℕ) → sums s ≡ pos 0) → sum_over (λ s. sums s *ℤ pos (slice_index x s)) xs ≡ pos 0
gain-none sums [] x none = refl
gain-none sums (s ∷ xs) x none =
    let here : sums s *ℤ pos (slice_index x s) ≡ pos 0 = ap (λ z. z *ℤ pos (slice_index x s)) (none s) ∙ zero-*ℤ (pos (slice_index x s)) in
    omega (arith, ints, here, gain-none sums xs x none)

-- ---- what a plan of root 1 gains from regrets
pub at_set_gain : (r : ℕ → ℤ) (x : List ℕ) (b : ℕ) (xs : List ℕ) → All (λ s. r s ≤ℤ pos b) xs
    → sum_over (λ s. r s *ℤ pos (slice_index x s)) xs ≤ℤ pos (b * nat_sum_over (λ s. slice_index x s) xs)
at_set_gain r x b [] le = omega (arith, ints)
at_set_gain r x b (s ∷ xs) le =
    omega (
      arith,
      ints,
      *ℤ-mono_right (slice_index x s) (r s) (pos b) (All-head (λ s. r s ≤ℤ pos b) s xs le),
      at_set_gain r x b xs
          (All-tail (λ s. r s ≤ℤ pos b) s xs le),
    )

at_sets_gain : (r : ℕ → ℤ) (x : List ℕ) (bound : PlacedSet → ℕ) (hs : List PlacedSet)
    → ((s : ℕ) → slice_index x s ≤ 1) → All (AddsUp x) hs
    → All (λ h. All (λ s. r s ≤ℤ pos (bound h)) (sequences_of h)) hs
    → at_sets r x hs ≤ℤ pos (nat_sum_over bound hs)
at_sets_gain r x bound [] small sums le = omega (arith, ints)
at_sets_gain r x bound (g ∷ gs) small sums le =
    let here = at_set_gain r x (bound g) (sequences_of g) (All-head (λ h. All (λ s. r s ≤ℤ pos (bound h)) (sequences_of h)) g gs le) in
    let adds : bound g * nat_sum_over (λ s. slice_index x s) (sequences_of g) ≡ bound g * slice_index x g.before =
    ap (λ n. bound g * n) (All-head (AddsUp x) g gs sums) in
    let one : bound g * slice_index x g.before ≤ bound g * 1 = mul-le-mul_left (bound g) (small g.before) in
    omega (
      arith,
      ints,
      here,
      adds,
      one,
      at_sets_gain r x bound gs small (All-tail (AddsUp x) g gs sums)
          (All-tail (λ h. All (λ s. r s ≤ℤ pos (bound h)) (sequences_of h)) g gs le),
    )

pub regrets_gain : (sets : List InformationSet) (regrets : List ℤ) (x : List ℕ) (bound : PlacedSet → ℕ) → AreInOrder sets
    → IsPlan sets 1 x → regret_of regrets 0 ≡ pos 0
    → All (λ h. All (λ s. regret_of regrets s ≤ℤ pos (bound h)) (sequences_of h)) (placed sets)
    → gain (regret_of regrets) sets x ≤ℤ pos (nat_sum_over bound (placed sets))
regrets_gain sets regrets x bound order plan none le =
    omega (
      arith,
      ints,
      no_regret_of_empty regrets sets x none,
      at_sets_gain (regret_of regrets) x bound (placed sets) (plan-below_root sets 1 x order plan)
          plan.each_set le,
    )
