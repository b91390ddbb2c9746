-- How often an element is in a list, against `Contains`.
use Rattle.std.proofs.Common.{◌≡◌, ℕ, zero, suc, ◌+◌, ◌≤◌, Bool, true, false, cond, eqb, ltb, ◌&&◌, List, [], ◌∷◌, get_or, map, refl, ap, ◌∙◌, subst, arith}
use Rattle.std.specs.Prelude.{Contains}
use Rattle.std.specs.List.{range_with_len}
use Rattle.std.proofs.lemmas.List.Sums.{sum_by-cons, get_or-le-sum_by}
use Rattle.std.proofs.lemmas.Bool.{and_parts, eqb-true}
use Rattle.std.proofs.lemmas.Bool.Decides.{nat_tests}
use Rattle.def_history.specs.History.{times, job_numbers}
use Rattle.def_history.specs.Core.{Right, times_right, rights_of}
use Rattle.def_sums.proofs.RisingLists.{Contains-head, Contains-tail}

-- 1 where a test holds, else 0
abbrev pub one_if : Bool → ℕ
one_if test = cond test 1 0

-- a job is in a list as often as at its head and in its tail together
pub times-cons : (job head : ℕ) (tail : List ℕ) → times job (head ∷ tail) ≡ cond (eqb head job) 1 0 + times job tail
times-cons job head tail = sum_by-cons (λ (other : ℕ). cond (eqb other job) 1 0) head tail

-- with the job put in front, it is there once more
pub times-self : (job : ℕ) (tail : List ℕ) → times job (job ∷ tail) ≡ 1 + times job tail
times-self job tail = rw times-cons (grind (arith, nat_tests))

-- a job that is in a list is counted there at least once
pub times_from_Contains : (job : ℕ) (jobs : List ℕ) → Contains jobs job → 1 ≤ times job jobs
times_from_Contains job jobs (k, below, is) =
    let at = get_or-le-sum_by (λ (other : ℕ). cond (eqb other job) 1 0) jobs k job below in
    let one : one_if (eqb (get_or jobs k job) job) ≡ 1 = rw is (grind (arith, nat_tests)) in
    omega (arith, at, one)

-- a job that is counted at least once in a list is in it
pub Contains_from_times : (job : ℕ) (jobs : List ℕ) → 1 ≤ times job jobs → Contains jobs job
Contains_from_times job [] h = absurd (omega arith)
Contains_from_times job (head ∷ tail) h = by_head (Contains_from_times job tail) (eqb head job) refl
  where
    by_head : (1 ≤ times job tail → Contains tail job) → (same : Bool) → eqb head job ≡ same
        → Contains (head ∷ tail) job
    by_head later true e = let is : head ≡ job = grind (arith, nat_tests) in subst (λ x. Contains (head ∷ tail) x) is (Contains-head head tail)
    by_head later false e =
        let none : one_if (eqb head job) ≡ 0 = rw e refl in
        let rest : 1 ≤ times job tail = omega (arith, times-cons job head tail, none, h) in
        Contains-tail head job tail (later rest)

-- the same for rights
is_right : ℕ → ℕ → Right → Bool
is_right job stripe right = eqb right.job job && eqb right.stripe stripe

-- a right is in a list as often as at its head and in its tail together
pub times_right-cons : (job stripe : ℕ) (head : Right) (tail : List Right)
    → times_right job stripe (head ∷ tail)
    ≡ cond (eqb head.job job && eqb head.stripe stripe) 1 0 + times_right job stripe tail
times_right-cons job stripe head tail = sum_by-cons (λ (right : Right). cond (eqb right.job job && eqb right.stripe stripe) 1 0) head tail

-- the test of a right on itself counts one
pub same_right : (job stripe : ℕ) → one_if (eqb job job && eqb stripe stripe) ≡ 1
same_right job stripe = grind (arith, nat_tests)

-- a right that is in a list is counted there at least once
pub times_right_from_Contains : (job stripe : ℕ) (rights : List Right)
    → Contains rights (record { job = job; stripe = stripe }) → 1 ≤ times_right job stripe rights
times_right_from_Contains job stripe rights (k, below, is) =
    let right : Right = record { job = job; stripe = stripe } in
    let at = get_or-le-sum_by (λ (right : Right). cond (eqb right.job job && eqb right.stripe stripe) 1 0) rights k right below in
    let one : one_if (eqb (get_or rights k right).job job && eqb (get_or rights k right).stripe stripe) ≡ 1 = rw is (same_right job stripe) in
    omega (arith, at, one)

-- a right of the same job and the same stripe is that right
pub right_is : (head : Right) (job stripe : ℕ) → (eqb head.job job && eqb head.stripe stripe) ≡ true
    → head ≡ record { job = job; stripe = stripe }
right_is head job stripe e =
    let both = and_parts (eqb head.job job) (eqb head.stripe stripe) e in
    let a : head.job ≡ job = eqb-true head.job job both.0 in
    let b : head.stripe ≡ stripe = eqb-true head.stripe stripe both.1 in
    λ i. record { job = a i; stripe = b i }

-- a right that is counted at least once in a list is in it
pub Contains_from_times_right : (job stripe : ℕ) (rights : List Right) → 1 ≤ times_right job stripe rights
    → Contains rights (record { job = job; stripe = stripe })
Contains_from_times_right job stripe [] h = absurd (omega arith)
Contains_from_times_right job stripe (head ∷ tail) h = by_head (Contains_from_times_right job stripe tail) (eqb head.job job && eqb head.stripe stripe) refl
  where
    by_head : (1 ≤ times_right job stripe tail → Contains tail (record { job = job; stripe = stripe })) → (same : Bool)
        → (eqb head.job job && eqb head.stripe stripe) ≡ same
        → Contains (head ∷ tail) (record { job = job; stripe = stripe })
    by_head later true e = subst (λ x. Contains (head ∷ tail) x) (right_is head job stripe e) (Contains-head head tail)
    by_head later false e =
        let none : one_if (eqb head.job job && eqb head.stripe stripe) ≡ 0 = rw e refl in
        let rest : 1 ≤ times_right job stripe tail = omega (arith, times_right-cons job stripe head tail, none, h) in
        Contains-tail head (record { job = job; stripe = stripe }) tail (later rest)

-- each number of a range is in it once
pub times-range : (first count job : ℕ)
    → times job (range_with_len first count) ≡ cond (ltb job first) 0 (cond (ltb job (first + count)) 1 0)
times-range first zero job = grind (arith, nat_tests)
times-range first (suc count) job = rw times-cons (rw (times-range (first + 1) count job) (step first count job))
  where
    step : (first count job : ℕ)
        → cond (eqb first job) 1 0 + cond (ltb job (first + 1)) 0 (cond (ltb job (first + 1 + count)) 1 0)
        ≡ cond (ltb job first) 0 (cond (ltb job (first + suc count)) 1 0)
    step first count job = grind (arith, nat_tests)

-- every job is once among the numbers of the jobs, and nothing else is
pub times-job_numbers : (jobs job : ℕ) → times job (job_numbers jobs) ≡ cond (ltb job jobs) 1 0
times-job_numbers jobs job = let r = times-range 0 jobs job in grind (arith, nat_tests, r)

-- a job's rights for all stripes: each once
pub times_right-range : (of job stripe first count : ℕ)
    → times_right job stripe (map (λ (s : ℕ). record { job = of; stripe = s }) (range_with_len first count))
    ≡ cond (eqb of job) (times stripe (range_with_len first count)) 0
times_right-range of job stripe first zero = grind (arith, nat_tests)
times_right-range of job stripe first (suc count) =
    rw times_right-cons (rw (times_right-range of job stripe (first + 1) count)
    (rw times-cons (step of job stripe first (times stripe (range_with_len (first + 1) count)))))
  where
    step : (of job stripe first rest : ℕ)
        → cond (eqb of job && eqb first stripe) 1 0 + cond (eqb of job) rest 0
        ≡ cond (eqb of job) (cond (eqb first stripe) 1 0 + rest) 0
    step of job stripe first rest = grind (arith, nat_tests)

-- a job's rights have each stripe once, and nothing of another job
pub times_right-rights_of : (of stripes job stripe : ℕ)
    → times_right job stripe (rights_of of stripes) ≡ cond (eqb of job) (cond (ltb stripe stripes) 1 0) 0
times_right-rights_of of stripes job stripe =
    let a = times_right-range of job stripe 0 stripes in
    let b = times-job_numbers stripes stripe in
    a ∙ ap (λ n. cond (eqb of job) n 0) b
