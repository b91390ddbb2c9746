-- Plans that are added number by number, and how large their numbers are.
use Rattle.std.proofs.Common.{◌≡◌, ◌≢◌, ℕ, zero, suc, ◌+◌, ◌*◌, ◌^◌, ◌<◌, ◌≤◌, List, length, get_or, replicate, slice_index, ap, sym, ◌∙◌, arith, ⊎_elim}
use Rattle.std.proofs.Math.ListN.{set}
use Rattle.std.proofs.Math.Nat.{mul-le-mul_left}
use Rattle.std.proofs.lemmas.Bool.{cases_eq, cases_lt}
use Rattle.std.proofs.lemmas.Grind.{same_number_lists}
use Rattle.std.proofs.lemmas.List.{get_or-replicate, get_or-set_other, get_or-set_same, get_or_past, length-replicate, length-set}
use Rattle.def_sums.specs.Limits.{most_root}
use Rattle.def_plan.specs.Form.{AreInOrder, InformationSet, sequence_count}
use Rattle.def_plan.specs.Plan.{IsPlanOrCleared}
use Rattle.def_plan.proofs.SizeLaws.{plan-below_root}
use Rattle.def_plus.specs.Multiple.{added_times}
use Rattle.def_plus.proofs.Multiples.{at-added_times, length-added_times, sums_of_multiples_are_plans}

-- the numbers before place i are added so many times, and the others aren't yet
pub record IsAddedUpTo (plan other : List ℕ) (times i : ℕ) (sums : List ℕ) : Type 0 where
  pub count : length sums ≡ length plan
  pub done : (s : ℕ) → s < i → get_or sums s 0 ≡ get_or plan s 0 + times * get_or other s 0
  pub rest : (s : ℕ) → i ≤ s → get_or sums s 0 ≡ get_or plan s 0

pub added_more : (plan other : List ℕ) (times i : ℕ) (sums : List ℕ) → i < length plan → IsAddedUpTo plan other times i sums
    → IsAddedUpTo plan other times (i + 1) (set sums i (get_or sums i 0 + times * get_or other i 0))
added_more plan other times i sums below upto =
    let n : ℕ = get_or sums i 0 + times * get_or other i 0 in
    record {
      count = length-set sums i n ∙ upto.count;
      done = λ s low.
          ⊎_elim
          (λ last. let is : s ≡ i = last in
          ap (λ t. get_or (set sums i n) t 0) is ∙ get_or-set_same sums i n 0 (omega (arith, upto.count))
          ∙ ap (λ m. m + times * get_or other i 0) (upto.rest i (omega arith)) ∙ ap (λ t. get_or plan t 0 + times * get_or other t 0) (sym is))
          (λ earlier. let apart : s ≢ i = earlier in get_or-set_other sums i s n 0 apart ∙ upto.done s (omega arith))
          (cases_eq s i);
      rest = λ s low. let apart : s ≢ i = omega arith in get_or-set_other sums i s n 0 apart ∙ upto.rest s (omega arith);
    }

-- a list in which the numbers of all places are added so is the sum to which the plan is added so many times
pub added_all : (plan other : List ℕ) (times i : ℕ) (sums : List ℕ) → length plan ≡ length other → length plan ≤ i
    → IsAddedUpTo plan other times i sums → sums ≡ added_times plan other times
added_all plan other times i sums same all upto =
    same_number_lists sums (added_times plan other times) (omega (arith, upto.count, length-added_times plan other times same))
    (λ s low. omega (arith, upto.done s (omega (arith, upto.count)), at-added_times plan other times s same))

zeros : (n s : ℕ) → ◌≡◌ {A = ℕ} (get_or (replicate n 0) s 0) 0
zeros n s = ⊎_elim (λ low. get_or-replicate n s 0 0 low) (λ past. get_or_past (replicate n 0) s 0 (omega (arith, length-replicate {A = ℕ} n 0))) (cases_lt s n)

-- no number of a plan or a cleared one is above the root
pub below_root : (sets : List InformationSet) (root : ℕ) (plan : List ℕ) → AreInOrder sets
    → IsPlanOrCleared sets root plan → (s : ℕ) → slice_index plan s ≤ root
below_root sets zero plan order is s = omega (arith, ap (λ x. slice_index x s) is, zeros (sequence_count sets) s)
below_root sets (suc root) plan order is s = plan-below_root sets (suc root) plan order is s

-- so no number of a sum within the limit is past a word
pub small_sums : (sets : List InformationSet) (sum plan : List ℕ) (times : ℕ) → AreInOrder sets
    → IsPlanOrCleared sets (slice_index sum 0) sum → IsPlanOrCleared sets (slice_index plan 0) plan
    → slice_index sum 0 + times * slice_index plan 0 ≤ most_root → (s : ℕ)
    → slice_index sum s + times * slice_index plan s < 2 ^ 64
small_sums sets sum plan times order sum_is plan_is limit s =
    omega (
      arith,
      below_root sets (slice_index sum 0) sum order sum_is s,
      mul-le-mul_left times (below_root sets (slice_index plan 0) plan order plan_is s),
      limit,
    )

-- a plan without a root adds nothing
pub no_root_adds_nothing : (sets : List InformationSet) (root : ℕ) (sum plan : List ℕ) (times : ℕ)
    → IsPlanOrCleared sets root plan → root ≡ 0 → length sum ≡ length plan → added_times sum plan times ≡ sum
no_root_adds_nothing sets zero sum plan times is none same =
    let long : length sum ≡ sequence_count sets = same ∙ ap length is ∙ length-replicate (sequence_count sets) 0 in
    ap (λ p. added_times sum p times) is ∙ sums_of_multiples_are_plans.cleared_plan sets sum times long
no_root_adds_nothing sets (suc root) sum plan times is none same = absurd (omega arith)
