-- Plans that are added several times.
use Rattle.std.proofs.Common.{◌≡◌, ℕ, zero, suc, ◌+◌, ◌*◌, ◌≤◌, List, [], ◌∷◌, length, slice_index, get_or, replicate, arith, ap, sym, ◌∙◌, refl, subst}
use Rattle.std.proofs.lemmas.List.{length-map}
use Rattle.def_sums.proofs.SumLaws.{nat_sum_over-same, nat_sum_over-factor}
use Rattle.def_plan.specs.Form.{InformationSet, PlacedSet, placed, sequences_of, sequence_count}
use Rattle.def_plan.specs.Plan.{IsPlan, IsPlanOrCleared, added}
use Rattle.def_plan.proofs.Adding.{length-added, at-added, added-is_plan, cleared_plans_add_nothing}
use Rattle.def_plus.specs.Multiple.{multiple, added_times}
use Rattle.def_plus.specs.Laws.{PlansAreAddedTimes, SumsOfMultiplesArePlans}

at-multiple : (times : ℕ) (plan : List ℕ) (s : ℕ) → slice_index (multiple times plan) s ≡ times * slice_index plan s
at-multiple times [] zero = omega arith
at-multiple times [] (suc s) = omega arith
at-multiple times (n ∷ plan) zero = refl
at-multiple times (n ∷ plan) (suc s) = at-multiple times plan s

-- a sum has so many times the plan's numbers more
pub at-added_times : (sum plan : List ℕ) (times s : ℕ) → length sum ≡ length plan
    → slice_index (added_times sum plan times) s ≡ slice_index sum s + times * slice_index plan s
at-added_times sum plan times s same =
    at-added sum (multiple times plan) s (same ∙ sym (length-map plan (λ n. times * n))) ∙ ap (λ n. slice_index sum s + n) (at-multiple times plan s)

-- and a number for each of its sequences still
pub length-added_times : (sum plan : List ℕ) (times : ℕ) → length sum ≡ length plan
    → length (added_times sum plan times) ≡ length sum
length-added_times sum plan times same = length-added sum (multiple times plan) (same ∙ sym (length-map plan (λ n. times * n)))

-- a plan that is never added changes nothing
pub not_once : (sum plan : List ℕ) → length sum ≡ length plan → added_times sum plan 0 ≡ sum
not_once [] [] same = refl
not_once [] (n ∷ plan) same = absurd (omega arith)
not_once (a ∷ sum) [] same = absurd (omega arith)
not_once (a ∷ sum) (n ∷ plan) same =
    ap (λ b. b ∷ added_times sum plan 0) (omega arith) ∙ ap (λ ns. a ∷ ns) (not_once sum plan (omega arith))

multiple_once : (plan : List ℕ) → multiple 1 plan ≡ plan
multiple_once [] = refl
multiple_once (n ∷ plan) = ap (λ b. b ∷ multiple 1 plan) (omega arith) ∙ ap (λ ns. n ∷ ns) (multiple_once plan)

-- a plan that is added once is added
pub added_once : (sum plan : List ℕ) → added_times sum plan 1 ≡ added sum plan
added_once sum plan = ap (added sum) (multiple_once plan)

once_more : (sum plan : List ℕ) (times : ℕ) → length sum ≡ length plan
    → added_times sum plan (times + 1) ≡ added (added_times sum plan times) plan
once_more [] [] times same = refl
once_more [] (n ∷ plan) times same = absurd (omega arith)
once_more (a ∷ sum) [] times same = absurd (omega arith)
once_more (a ∷ sum) (n ∷ plan) times same =
    let here : a + (times + 1) * n ≡ a + times * n + n = omega arith in
    ap (λ b. b ∷ added_times sum plan (times + 1)) here ∙ ap (λ ns. (a + times * n + n) ∷ ns) (once_more sum plan times (omega arith))

-- a plan that is added so many times is the sum of so many additions
pub plans_are_added_times : PlansAreAddedTimes
plans_are_added_times = record {
  each_number = at-added_times;
  all_sequences = length-added_times;
  none = not_once;
  once = added_once;
  once_more = once_more;
}

-- ---- plans
multiple-is_plan : (sets : List InformationSet) (root : ℕ) (plan : List ℕ) (times : ℕ) → 1 ≤ times
    → IsPlan sets root plan → IsPlan sets (times * root) (multiple times plan)
multiple-is_plan sets root plan zero some p = absurd (omega arith)
multiple-is_plan sets root plan (suc more) some p =
    let times : ℕ = suc more in
    let at : (s : ℕ) → slice_index (multiple times plan) s ≡ times * slice_index plan s = λ s. at-multiple times plan s in
    record {
      all_sequences = length-map plan (λ n. times * n) ∙ p.all_sequences;
      some_root = omega (arith, p.some_root);
      root_weight = at 0 ∙ ap (λ n. times * n) p.root_weight;
      each_set = λ k d low.
          let h : PlacedSet = get_or (placed sets) k d in
          nat_sum_over-same (λ s. slice_index (multiple times plan) s) (λ s. slice_index plan s * times) (sequences_of h) (λ i a l. turned _ _ (at _))
          ∙ nat_sum_over-factor times (λ s. slice_index plan s) (sequences_of h)
          ∙ ap (λ n. n * times) (p.each_set k d low)
          ∙ sym (turned _ _ (at h.before));
    }
  where
    turned : (a b : ℕ) → a ≡ suc more * b → a ≡ b * suc more
    turned a b e = omega (arith, e)

zero_times : (plan : List ℕ) → multiple 0 plan ≡ replicate (length plan) 0
zero_times [] = refl
zero_times (n ∷ plan) = ap (λ b. b ∷ multiple 0 plan) (omega arith) ∙ ap (λ ns. 0 ∷ ns) (zero_times plan)

-- and a cleared one neither
pub times_zeros : (times n : ℕ) → multiple times (replicate n 0) ≡ replicate n 0
times_zeros times zero = refl
times_zeros times (suc n) = ap (λ b. b ∷ multiple times (replicate n 0)) (omega arith) ∙ ap (λ ns. 0 ∷ ns) (times_zeros times n)

multiple-is : (sets : List InformationSet) (root : ℕ) (plan : List ℕ) (times : ℕ) → IsPlanOrCleared sets root plan
    → IsPlanOrCleared sets (times * root) (multiple times plan)
multiple-is sets zero plan times p =
    let none : times * 0 ≡ 0 = omega arith in
    subst (λ r. IsPlanOrCleared sets r (multiple times plan)) (sym none) (ap (multiple times) p ∙ times_zeros times (sequence_count sets))
multiple-is sets (suc root) plan zero p =
    let none : 0 * suc root ≡ 0 = omega arith in
    subst (λ r. IsPlanOrCleared sets r (multiple 0 plan)) (sym none) (zero_times plan ∙ ap (λ n. replicate n 0) p.all_sequences)
multiple-is sets (suc root) plan (suc times) p =
    let some : suc times * suc root ≡ suc (root + times * suc root) = omega arith in
    subst (λ r. IsPlanOrCleared sets r (multiple (suc times) plan)) (sym some)
    (subst (λ r. IsPlan sets r (multiple (suc times) plan)) some (multiple-is_plan sets (suc root) plan (suc times) (omega arith) p))

-- added so many times to a plan, it makes a plan
pub times-is_plan : (sets : List InformationSet) (root other_root : ℕ) (sum plan : List ℕ) (times : ℕ)
    → IsPlan sets root sum → IsPlan sets other_root plan
    → IsPlan sets (root + times * other_root) (added_times sum plan times)
times-is_plan sets root other_root sum plan zero p q =
    let same : root + 0 * other_root ≡ root = omega arith in
    subst (λ r. IsPlan sets r (added_times sum plan 0)) (sym same) (subst (IsPlan sets root) (sym (not_once sum plan (p.all_sequences ∙ sym q.all_sequences)))
    p)
times-is_plan sets root other_root sum plan (suc times) p q =
    added-is_plan sets root (suc times * other_root) sum (multiple (suc times) plan) p (multiple-is_plan sets other_root plan (suc times) (omega arith) q)

-- what is made so of plans and cleared ones is a plan or cleared
pub sum-is : (sets : List InformationSet) (root other_root : ℕ) (sum plan : List ℕ) (times : ℕ)
    → IsPlanOrCleared sets root sum → IsPlanOrCleared sets other_root plan
    → IsPlanOrCleared sets (root + times * other_root) (added_times sum plan times)
sum-is sets root other_root sum plan times p q =
    cleared_plans_add_nothing.sums sets root (times * other_root) sum (multiple times plan) p (multiple-is sets other_root plan times q)

-- a plan that is added so many times to a plan makes a plan, and the roots are added likewise
pub sums_of_multiples_are_plans : SumsOfMultiplesArePlans
sums_of_multiples_are_plans = record {
  is_plan = times-is_plan;
  multiples = multiple-is_plan;
  cleared_plan = λ sets sum times long. ap (added sum) (times_zeros times (sequence_count sets)) ∙ cleared_plans_add_nothing.second sets sum long;
  sums = sum-is;
}
