-- Sums of plans.
use Rattle.std.proofs.Common.{◌≡◌, ℕ, zero, suc, ◌+◌, List, [], ◌∷◌, length, slice_index, get_or, replicate, arith, ap, sym, ◌∙◌, refl, subst}
use Rattle.def_sums.proofs.SumLaws.{nat_sum_over-same, nat_sum_over-add}
use Rattle.std.proofs.lemmas.List.{length-replicate}
use Rattle.def_sums.specs.Sum.{nat_sum_over}
use Rattle.def_plan.specs.Form.{InformationSet, PlacedSet, placed, sequences_of, sequence_count}
use Rattle.def_plan.specs.Plan.{IsPlan, IsPlanOrCleared, cleared, added}
use Rattle.def_plan.specs.Laws.{ClearedPlansAddNothing}

-- two plans of one length add up to one of that length
pub length-added : (x y : List ℕ) → length x ≡ length y → length (added x y) ≡ length x
length-added [] [] e = refl
length-added [] (b ∷ y) e = refl
length-added (a ∷ x) [] e = omega arith
length-added (a ∷ x) (b ∷ y) e = ap suc (length-added x y (omega arith))

-- each number of a sum is the sum of the two plans' numbers there
pub at-added : (x y : List ℕ) (s : ℕ) → length x ≡ length y
    → slice_index (added x y) s ≡ slice_index x s + slice_index y s
at-added [] [] s e = omega arith
at-added [] (b ∷ y) s e = omega arith
at-added (a ∷ x) [] s e = omega arith
at-added (a ∷ x) (b ∷ y) zero e = refl
at-added (a ∷ x) (b ∷ y) (suc s) e = at-added x y s (omega arith)

-- numbers of which nothing is dealt yet add nothing
pub zeros-added : (x : List ℕ) → added (replicate (length x) 0) x ≡ x
zeros-added [] = refl
zeros-added (a ∷ x) = ap (λ n. n ∷ added (replicate (length x) 0) x) (omega arith) ∙ ap (λ xs. a ∷ xs) (zeros-added x)

-- two plans add up to a plan, and their roots to its root
pub added-is_plan : (sets : List InformationSet) (d e : ℕ) (x y : List ℕ) → IsPlan sets d x → IsPlan sets e y
    → IsPlan sets (d + e) (added x y)
added-is_plan sets d e x y p q =
    let same : length x ≡ length y = omega (arith, p.all_sequences, q.all_sequences) in
    let sum_at : (s : ℕ) → slice_index (added x y) s ≡ slice_index x s + slice_index y s = λ s. at-added x y s same in
    record {
      all_sequences = length-added x y same ∙ p.all_sequences;
      some_root = omega (arith, p.some_root);
      root_weight = omega (arith, sum_at 0, p.root_weight, q.root_weight);
      each_set = λ k g low.
          let h : PlacedSet = get_or (placed sets) k g in
          nat_sum_over-same (λ s. slice_index (added x y) s) (λ s. slice_index x s + slice_index y s) (sequences_of h) (λ i a l. sum_at _)
          ∙ nat_sum_over-add (λ s. slice_index x s) (λ s. slice_index y s) (sequences_of h)
          ∙ omega (arith, p.each_set k g low, q.each_set k g low, sum_at h.before);
    }

-- ---- cleared plans
added_zeros : (x : List ℕ) → added x (replicate (length x) 0) ≡ x
added_zeros [] = refl
added_zeros (a ∷ x) = ap (λ n. n ∷ added x (replicate (length x) 0)) (omega arith) ∙ ap (λ xs. a ∷ xs) (added_zeros x)

first_zeros : (n : ℕ) (x : List ℕ) → length x ≡ n → added (replicate n 0) x ≡ x
first_zeros n x e = ap (λ m. added (replicate m 0) x) (sym e) ∙ zeros-added x

second_zeros : (n : ℕ) (x : List ℕ) → length x ≡ n → added x (replicate n 0) ≡ x
second_zeros n x e = ap (λ m. added x (replicate m 0)) (sym e) ∙ added_zeros x

cleared_sums : (sets : List InformationSet) (d e : ℕ) (x y : List ℕ) → IsPlanOrCleared sets d x
    → IsPlanOrCleared sets e y → IsPlanOrCleared sets (d + e) (added x y)
cleared_sums sets zero zero x y p q =
    ap (λ z. added z y) p ∙ ap (added (cleared sets)) q ∙ first_zeros (sequence_count sets) (cleared sets) (length-replicate (sequence_count sets) 0)
cleared_sums sets zero (suc e) x y p q =
    let none : 0 + suc e ≡ suc e = omega arith in
    let same : added x y ≡ y = ap (λ z. added z y) p ∙ first_zeros (sequence_count sets) y q.all_sequences in
    subst (λ r. IsPlanOrCleared sets r (added x y)) (sym none) (subst (λ z. IsPlan sets (suc e) z) (sym same) q)
cleared_sums sets (suc d) zero x y p q =
    let none : suc d + 0 ≡ suc d = omega arith in
    let same : added x y ≡ x = ap (added x) q ∙ second_zeros (sequence_count sets) x p.all_sequences in
    subst (λ r. IsPlanOrCleared sets r (added x y)) (sym none) (subst (λ z. IsPlan sets (suc d) z) (sym same) p)
cleared_sums sets (suc d) (suc e) x y p q =
    let same : suc d + suc e ≡ suc (d + suc e) = omega arith in
    subst (λ r. IsPlanOrCleared sets r (added x y)) (sym same) (subst (λ r. IsPlan sets r (added x y)) same (added-is_plan sets (suc d) (suc e) x y p q))

at_start : (n : ℕ) → slice_index (replicate (1 + n) 0) 0 ≡ 0
at_start n = ap (λ m. slice_index (replicate m 0) 0) more
  where
    more : 1 + n ≡ suc n
    more = omega arith

no_plan : (sets : List InformationSet) (root : ℕ) → IsPlan sets root (cleared sets) → ⊥
no_plan sets root p = let zero' : slice_index (cleared sets) 0 ≡ 0 = at_start (nat_sum_over (λ h. h.actions) sets) in omega
    (arith, p.some_root, p.root_weight, zero')

root_is : (sets : List InformationSet) (root : ℕ) (plan : List ℕ) → IsPlanOrCleared sets root plan
    → (length plan ≡ sequence_count sets) × (slice_index plan 0 ≡ root)
root_is sets zero plan p =
    (ap length p ∙ length-replicate (sequence_count sets) 0, ap (λ x. slice_index x 0) p ∙ at_start (nat_sum_over (λ h. h.actions) sets))
root_is sets (suc root) plan p = (p.all_sequences, p.root_weight)

-- a cleared plan is no plan and adds nothing, and sums with cleared ones are plans or cleared
pub cleared_plans_add_nothing : ClearedPlansAddNothing
cleared_plans_add_nothing = record {
  no_plan = no_plan;
  first = λ sets plan e. first_zeros (sequence_count sets) plan e;
  second = λ sets plan e. second_zeros (sequence_count sets) plan e;
  sums = cleared_sums;
  root = root_is;
}
