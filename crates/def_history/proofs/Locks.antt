-- Local steps, rights by counts, and the size of a legal history's replay.
use Rattle.std.proofs.Common.{◌≡◌, ℕ, suc, ◌+◌, ◌<◌, ◌≤◌, ◌&&◌, Bool, true, false, cond, eqb, ltb, List, [], ◌∷◌, ◌++◌, get_or, set, refl, sym, ap, ◌∙◌, subst}
use Rattle.std.proofs.Common.{arith, inl, inr}
use Rattle.std.specs.Prelude.{unsigned_abs, IsPermutation, All}
use Rattle.std.proofs.lemmas.List.{get_or-set_same}
use Rattle.std.proofs.lemmas.List.Sums.{sum_by-cons, sum_by-append}
use Rattle.std.proofs.lemmas.List.Sorted.{IsPermutation-refl, IsPermutation-sym, IsPermutation-cons, IsPermutation-middle, IsPermutation-trans}
use Rattle.std.proofs.lemmas.List.Sorted.{sum_by-IsPermutation}
use Rattle.std.proofs.lemmas.Bool.Decides.{nat_tests}
use Rattle.std.proofs.lemmas.Bool.{cases_lt}
use Rattle.def_sums.specs.Sum.{nat_sum_over}
use Rattle.def_sums.proofs.SumLaws.{unsigned_abs-sum_over}
use Rattle.def_history.specs.History.{times, job_numbers, IsLegal}
use Rattle.def_history.specs.Core.{Right, TakesJob, GivesRight, rights_held, history_of, stripe_count, times_right}
use Rattle.def_history.specs.Locks.{LocalStepsAreSteps, CountsTellRights, LegalReplaysAreSmall}
use Rattle.def_history.proofs.Counts.{one_if, times-cons, times-self, times-job_numbers, times_right-cons, times_right-rights_of, same_right, right_is}
use Rattle.def_history.proofs.Ends.{split_at, times-middle}

-- ---- what is done under one lock is a step of the core
-- whatever else the state is, what is done under the bag's lock is a draw, and under a stripe's lock an addition
pub local_steps_are_steps : LocalStepsAreSteps
local_steps_are_steps = record {
  under_the_bag = λ before pass job bag held is_pass takes.
      let now : get_or (set before.passes pass held) pass [] ≡ held = get_or-set_same before.passes pass held [] is_pass in
      record {
        is_pass = is_pass;
        takes_job = subst (TakesJob (stripe_count before) before.bag (rights_held before pass) job bag) (sym now) takes;
        other_passes = ap (set before.passes pass) (sym now);
        histories = refl;
      };
  under_a_stripe = λ before pass job stripe history held is_pass is_stripe gives.
      let now : get_or (set before.passes pass held) pass [] ≡ held = get_or-set_same before.passes pass held [] is_pass in
      let added : get_or (set before.histories stripe history) stripe [] ≡ history = get_or-set_same before.histories stripe history [] is_stripe in
      let with_held = subst (GivesRight stripe (history_of before stripe) (rights_held before pass) job history) (sym now) gives in
      record {
        is_pass = is_pass;
        gives_up = subst (λ (h : List ℕ). GivesRight stripe (history_of before stripe) (rights_held before pass) job h
            (get_or (set before.passes pass held) pass [])) (sym added) with_held;
        other_passes = ap (set before.passes pass) (sym now);
        other_histories = ap (set before.histories stripe) (sym added);
        bag = refl;
      };
}

-- ---- rights by counts
right_split : (x : Right) (ys : List Right) → 1 ≤ times_right x.job x.stripe ys
    → (front : List Right) × (back : List Right) × (ys ≡ front ++ x ∷ back)
right_split x [] h = absurd (omega arith)
right_split x (y ∷ ys) h = by_head (right_split x ys) (eqb y.job x.job && eqb y.stripe x.stripe) refl
  where
    by_head : (1 ≤ times_right x.job x.stripe ys
        → (front : List Right) × (back : List Right) × (ys ≡ front ++ x ∷ back))
        → (same : Bool) → (eqb y.job x.job && eqb y.stripe x.stripe) ≡ same
        → (front : List Right) × (back : List Right) × (y ∷ ys ≡ front ++ x ∷ back)
    by_head later true e = ([], ys, ap (λ z. z ∷ ys) (right_is y x.job x.stripe e))
    by_head later false e =
        let none : one_if (eqb y.job x.job && eqb y.stripe x.stripe) ≡ 0 = rw e refl in
        let rest : 1 ≤ times_right x.job x.stripe ys = omega (arith, times_right-cons x.job x.stripe y ys, none, h) in
        from (later rest)
      where
        from : (front : List Right) × (back : List Right) × (ys ≡ front ++ x ∷ back)
            → (front : List Right) × (back : List Right) × (y ∷ ys ≡ front ++ x ∷ back)
        from (front, back, is) = (y ∷ front, back, ap (λ zs. y ∷ zs) is)

right-middle : (job stripe : ℕ) (x : Right) (front back : List Right)
    → times_right job stripe (front ++ x ∷ back)
    ≡ one_if (eqb x.job job && eqb x.stripe stripe) + times_right job stripe (front ++ back)
right-middle job stripe x front back =
    let f : Right → ℕ = λ right. cond (eqb right.job job && eqb right.stripe stripe) 1 0 in
    omega (arith, sum_by-append f front (x ∷ back), sum_by-append f front back, sum_by-cons f x back)

has_itself : (x : Right) (xs : List Right) → 1 ≤ times_right x.job x.stripe (x ∷ xs)
has_itself x xs = omega (arith, times_right-cons x.job x.stripe x xs, same_right x.job x.stripe)

no_right : (ys : List Right) → ((job stripe : ℕ) → 0 ≡ times_right job stripe ys) → ys ≡ []
no_right [] e = refl
no_right (y ∷ ys) e = absurd (let a = has_itself y ys in let b = e y.job y.stripe in omega (arith, a, b))

permuted : (xs ys : List Right) → ((job stripe : ℕ) → times_right job stripe xs ≡ times_right job stripe ys)
    → IsPermutation xs ys
permuted [] ys same = subst (IsPermutation []) (sym (no_right ys same)) (IsPermutation-refl [])
permuted (x ∷ xs) ys same = from (permuted xs) (right_split x ys (let a = has_itself x xs in let b = same x.job x.stripe in omega (arith, a, b)))
  where
    from : ((ys' : List Right) → ((job stripe : ℕ) → times_right job stripe xs ≡ times_right job stripe ys')
        → IsPermutation xs ys')
        → (front : List Right) × (back : List Right) × (ys ≡ front ++ x ∷ back) → IsPermutation (x ∷ xs) ys
    from later (front, back, is) =
        let rest : (job stripe : ℕ) → times_right job stripe xs ≡ times_right job stripe (front ++ back) =
        (λ (job stripe : ℕ).
        let a = times_right-cons job stripe x xs in
        let b = same job stripe in
        let c = right-middle job stripe x front back in
        let e : times_right job stripe ys ≡ times_right job stripe (front ++ x ∷ back) = ap (times_right job stripe) is in
        omega (arith, a, b, c, e)) in
        let moved = IsPermutation-sym _ _ (IsPermutation-middle front x back) in
        subst (IsPermutation (x ∷ xs)) (sym is) (IsPermutation-trans _ _ _ (IsPermutation-cons x xs (front ++ back) (later (front ++ back) rest)) moved)

-- equal counts of all rights mean equal lists but for their order; a job has one right for each stripe
pub counts_tell_rights : CountsTellRights
counts_tell_rights = record {
  same = λ a b. (
    (λ perm job stripe. sym (sum_by-IsPermutation (λ (x : Right). cond (eqb x.job job && eqb x.stripe stripe) 1 0) a b perm)),
    permuted a b,
  );
  of_a_job = λ of stripes job stripe. times_right-rights_of of stripes job stripe ∙ both (eqb of job) (ltb stripe stripes);
}
  where
    both : (a b : Bool) → ◌≡◌ {A = ℕ} (cond a (cond b 1 0) 0) (cond (a && b) 1 0)
    both true b = refl
    both false b = refl

-- ---- the size of a replay
nat-middle : (f : ℕ → ℕ) (x : ℕ) (front back : List ℕ)
    → nat_sum_over f (front ++ x ∷ back) ≡ f x + nat_sum_over f (front ++ back)
nat-middle f x [] back = refl
nat-middle f x (y ∷ front) back = let rest = nat-middle f x front back in omega (arith, rest)

-- a list that has each number no more often than another has no greater sum
pub no_greater_sum : (f : ℕ → ℕ) (xs ys : List ℕ) → ((job : ℕ) → times job xs ≤ times job ys)
    → nat_sum_over f xs ≤ nat_sum_over f ys
no_greater_sum f [] ys fewer = omega arith
no_greater_sum f (x ∷ xs) ys fewer = from (no_greater_sum f xs) (split_at x ys (let a = times-self x xs in let b = fewer x in omega (arith, a, b)))
  where
    from : ((ys' : List ℕ) → ((job : ℕ) → times job xs ≤ times job ys') → nat_sum_over f xs ≤ nat_sum_over f ys')
        → (front : List ℕ) × (back : List ℕ) × (ys ≡ front ++ x ∷ back) → f x + nat_sum_over f xs ≤ nat_sum_over f ys
    from later (front, back, is) =
        let rest : (job : ℕ) → times job xs ≤ times job (front ++ back) =
        (λ (job : ℕ). let a = times-cons job x xs in let b = fewer job in let c = times-middle job x front back in let e : times job ys
        ≡ times job (front ++ x ∷ back) = ap (times job) is in omega (arith, a, b, c, e)) in
        let without = later (front ++ back) rest in
        let whole : nat_sum_over f ys ≡ nat_sum_over f (front ++ x ∷ back) = ap (nat_sum_over f) is in
        omega (arith, without, whole, nat-middle f x front back)

-- a legal history has each number no more often than the list of all jobs
legal_is_fewer : (jobs : ℕ) (history : List ℕ) → IsLegal jobs history → (job : ℕ)
    → times job history ≤ times job (job_numbers jobs)
legal_is_fewer jobs history legal job = elim (cases_lt job jobs) [ inl is_job ↦ inside is_job | inr above ↦ outside above ]
  where
    inside : job < jobs → times job history ≤ times job (job_numbers jobs)
    inside is_job = let one : one_if (ltb job jobs) ≡ 1 = grind (arith, nat_tests) in omega (arith, times-job_numbers jobs job, one, legal.once job)

    outside : jobs ≤ job → times job history ≤ times job (job_numbers jobs)
    outside above = omega (arith, not_named above)
      where
        not_named : jobs ≤ job → times job history ≤ 0
        not_named above' = never_in history legal.named
          where
            never_in : (xs : List ℕ) → All (λ j. j < jobs) xs → times job xs ≤ 0
            never_in [] named = omega arith
            never_in (x ∷ xs) named =
                let below : x < jobs = named 0 0 (omega arith) in
                let other : one_if (eqb x job) ≡ 0 = grind (arith, nat_tests) in
                omega (arith, times-cons job x xs, other, never_in xs (λ k d inside'. named (suc k) d (omega arith)))

-- what a legal history leaves at a row is at most the sizes of all jobs' amounts there together
pub legal_replays_are_small : LegalReplaysAreSmall
legal_replays_are_small jobs history legal amount row =
    let sizes = unsigned_abs-sum_over (λ job. amount job row) history in
    let fewer = no_greater_sum (λ job. unsigned_abs (amount job row)) history (job_numbers jobs) (legal_is_fewer jobs history legal) in
    omega (arith, sizes, fewer)
