-- A legal history is no longer than there are jobs, it may go on with a job that isn't in it, and it adds up to little.
use Rattle.std.proofs.Common.{◌≡◌, ℕ, ◌+◌, ◌<◌, ◌≤◌, eqb, Bool, true, false, cond, List, [], ◌∷◌, ◌++◌, length, refl, sym, ap, ◌∙◌, arith, inl, inr}
use Rattle.std.specs.Prelude.{Contains, ℤ, pos, unsigned_abs}
use Rattle.std.proofs.lemmas.Bool.Decides.{nat_tests}
use Rattle.std.proofs.lemmas.Bool.{cases_lt}
use Rattle.std.proofs.lemmas.List.Elements.{All-push}
use Rattle.std.proofs.lemmas.List.FromFn.{length-range_with_len}
use Rattle.def_sums.specs.Sum.{nat_sum_over}
use Rattle.def_sums.proofs.SumLaws.{sum_over-pos}
use Rattle.def_sums.proofs.Ranges.{at_most_sum}
use Rattle.def_history.specs.History.{times, job_numbers, IsLegal, replay}
use Rattle.def_history.proofs.Counts.{times-cons, Contains_from_times}
use Rattle.def_history.proofs.Locks.{legal_replays_are_small}

ones : (xs : List ℕ) → nat_sum_over (λ x. 1) xs ≡ length xs
ones [] = refl
ones (x ∷ xs) = let rest = ones xs in omega arith

-- a legal history has at most as many jobs as there are
pub length_legal : (jobs : ℕ) (order : List ℕ) → IsLegal jobs order → length order ≤ jobs
length_legal jobs order legal =
    let one : ℕ → ℕ = λ job. 1 in
    let small : unsigned_abs (replay (λ job row. pos 1) order 0) ≤ nat_sum_over one (job_numbers jobs) =
    legal_replays_are_small jobs order legal (λ job row. pos 1) 0 in
    let is : unsigned_abs (replay (λ job row. pos 1) order 0) ≡ nat_sum_over one order = ap unsigned_abs (sum_over-pos one order) in
    omega (arith, small, is, ones order, ones (job_numbers jobs), length-range_with_len 0 jobs)

-- its replay is small where the amounts are
pub replay_small : (amount : ℕ → ℕ → ℤ) (jobs : ℕ) (order : List ℕ) (row bound : ℕ) → IsLegal jobs order
    → nat_sum_over (λ job. unsigned_abs (amount job row)) (job_numbers jobs) ≤ bound
    → unsigned_abs (replay amount order row) ≤ bound
replay_small amount jobs order row bound legal small = let a = legal_replays_are_small jobs order legal amount row in omega arith

-- and so is each amount
pub amount_small : (amount : ℕ → ℕ → ℤ) (jobs job row bound : ℕ) → job < jobs
    → nat_sum_over (λ j. unsigned_abs (amount j row)) (job_numbers jobs) ≤ bound → unsigned_abs (amount job row) ≤ bound
amount_small amount jobs job row bound is small =
    let a = at_most_sum (λ j. unsigned_abs (amount j row)) 0 jobs job (omega arith) (omega arith) in omega arith

-- a job more at the end of a list counts for itself
pub times-push : (job new : ℕ) (xs : List ℕ) → times job (xs ++ new ∷ []) ≡ times job xs + cond (eqb new job) 1 0
times-push job new [] = let t = times-cons job new [] in grind (arith, nat_tests)
times-push job new (x ∷ xs) = omega (arith, times-cons job x (xs ++ new ∷ []), times-cons job x xs, times-push job new xs)

-- a job that isn't in a legal history may follow
pub legal_push : (jobs : ℕ) (order : List ℕ) (job : ℕ) → IsLegal jobs order → job < jobs → (Contains order job → ⊥)
    → IsLegal jobs (order ++ job ∷ [])
legal_push jobs order job legal is new = record { once = once; named = All-push (λ j. j < jobs) order job legal.named is }
  where
    none : times job order ≡ 0
    none =
        elim (cases_lt 0 (times job order)) [
          | inl here ↦ absurd (new (Contains_from_times job order here))
          | inr zero_times ↦ omega (arith, zero_times)
        ]

    once : (j : ℕ) → times j (order ++ job ∷ []) ≤ 1
    once j = by_case (eqb job j) refl
      where
        by_case : (b : Bool) → eqb job j ≡ b → times j (order ++ job ∷ []) ≤ 1
        by_case true e =
            let same : job ≡ j = grind (arith, nat_tests) in
            let n : times j order ≡ 0 = ap (λ k. times k order) (sym same) ∙ none in
            let one : ◌≡◌ {A = ℕ} (cond (eqb job j) 1 0) 1 = rw e refl in
            omega (arith, times-push j job order, n, one)
        by_case false e =
            let zero' : ◌≡◌ {A = ℕ} (cond (eqb job j) 1 0) 0 = rw e refl in
            omega (arith, times-push j job order, legal.once j, zero')
