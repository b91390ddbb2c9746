-- What every step keeps, by counts: each right is in the bag, held by a pass, or its job in the history, once in all.
use Rattle.std.proofs.Common.{◌≡◌, ℕ, suc, ◌+◌, ◌<◌, ◌≤◌, ◌≢◌, Bool, true, false, cond, eqb, ltb, ◌&&◌, List, [], ◌∷◌, ◌++◌, length, get_or, set, refl, sym, ap}
use Rattle.std.proofs.Common.{◌∙◌, subst, arith, inl, inr, length-set}
use Rattle.std.specs.Prelude.{All, sum_by, IsPermutation}
use Rattle.std.proofs.lemmas.List.{get_or-set_same, get_or-set_other}
use Rattle.std.proofs.lemmas.List.Sums.{sum_by-cons, sum_by_push, sum_by-set}
use Rattle.std.proofs.lemmas.List.Sorted.{sum_by_popped, sum_by-IsPermutation}
use Rattle.std.proofs.lemmas.Bool.Decides.{nat_tests}
use Rattle.std.proofs.lemmas.Bool.{cases_lt, cases_eq}
use Rattle.def_history.specs.History.{times}
use Rattle.def_history.specs.Core.{State, Right, Step, draw, add, Draws, Adds, OneStepLeads, StepsLead, none, first, IsOpening, IsReached, times_right}
use Rattle.def_history.specs.Core.{times_held, rights_of, rights_held, history_of, stripe_count}
use Rattle.def_history.proofs.Counts.{one_if, times-job_numbers, times_right-rights_of}

-- for each stripe, each job is once in all in the bag, held by a pass or in the stripe's history, and no other is;
-- no right of another stripe is held, and the bag has each job at most once, and no other
pub record IsBalanced (jobs : ℕ) (state : State) : Type 0 where
  pub balance : (job stripe : ℕ) → stripe < stripe_count state
      → times job state.bag + times_held state job stripe + times job (history_of state stripe) ≡ one_if (ltb job jobs)
  pub no_stripe : (job stripe : ℕ) → stripe_count state ≤ stripe → times_held state job stripe ≡ 0
  pub bag_once : (job : ℕ) → times job state.bag ≤ one_if (ltb job jobs)

-- what the passes hold after one of them changed
held_after : (before after : State) (pass : ℕ) → pass < length before.passes
    → after.passes ≡ set before.passes pass (rights_held after pass)
    → (job stripe : ℕ)
    → times_held after job stripe + times_right job stripe (rights_held before pass)
    ≡ times_held before job stripe + times_right job stripe (rights_held after pass)
held_after before after pass below is job stripe =
    let f : List Right → ℕ = λ rights. times_right job stripe rights in
    let e = sum_by-set f before.passes pass (rights_held after pass) [] below in
    subst (λ (passes : List (List Right)). sum_by f passes + f (rights_held before pass) ≡ sum_by f before.passes + f (rights_held after pass)) (sym is) e

-- counts over a permutation
times_popped : (job other : ℕ) (xs ys : List ℕ) → IsPermutation xs (job ∷ ys)
    → times other ys + one_if (eqb job other) ≡ times other xs
times_popped job other xs ys perm = sum_by_popped (λ (x : ℕ). cond (eqb x other) 1 0) job xs ys perm

right_popped : (job stripe : ℕ) (right : Right) (xs ys : List Right) → IsPermutation xs (right ∷ ys)
    → times_right job stripe ys + one_if (eqb right.job job && eqb right.stripe stripe) ≡ times_right job stripe xs
right_popped job stripe right xs ys perm = sum_by_popped (λ (x : Right). cond (eqb x.job job && eqb x.stripe stripe) 1 0) right xs ys perm

-- ---- a draw
draw_held : (before : State) (pass drawn : ℕ) (after : State) → Draws before pass drawn after → (job stripe : ℕ)
    → times_held after job stripe
    ≡ times_held before job stripe + cond (eqb drawn job) (one_if (ltb stripe (stripe_count before))) 0
draw_held before pass drawn after step job stripe =
    let a = held_after before after pass step.is_pass step.other_passes job stripe in
    let b : times_right job stripe (rights_held before pass) ≡ 0 = ap (λ (rights : List Right). times_right job stripe rights) step.takes_job.held_none in
    let c : times_right job stripe (rights_held after pass) ≡ times_right job stripe (rights_of drawn (stripe_count before)) =
    sum_by-IsPermutation (λ (x : Right). cond (eqb x.job job && eqb x.stripe stripe) 1 0) _ _ step.takes_job.gets_rights in
    let d = times_right-rights_of drawn (stripe_count before) job stripe in
    omega (arith, a, b, c, d)

draw_keeps : (jobs : ℕ) (before : State) (pass drawn : ℕ) (after : State) → IsBalanced jobs before
    → Draws before pass drawn after → IsBalanced jobs after
draw_keeps jobs before pass drawn after old step = record { balance = balance; no_stripe = no_stripe; bag_once = bag_once }
  where
    bag_once : (job : ℕ) → times job after.bag ≤ one_if (ltb job jobs)
    bag_once job = omega (arith, times_popped drawn job before.bag after.bag step.takes_job.leaves_bag, old.bag_once job)

    same_count : stripe_count after ≡ stripe_count before
    same_count = ap length step.histories

    balance : (job stripe : ℕ) → stripe < stripe_count after
        → times job after.bag + times_held after job stripe + times job (history_of after stripe)
        ≡ one_if (ltb job jobs)
    balance job stripe below =
        let below' : stripe < stripe_count before = omega (arith, same_count) in
        let inside : ltb stripe (stripe_count before) ≡ true = grind (arith, nat_tests) in
        let held = rw inside at (draw_held before pass drawn after step job stripe) in
        let bag = times_popped drawn job before.bag after.bag step.takes_job.leaves_bag in
        let history : times job (history_of after stripe) ≡ times job (history_of before stripe) = ap (λ (h : List (List ℕ)). times job (get_or h stripe []))
        step.histories in
        omega (arith, held, bag, history, old.balance job stripe below')

    no_stripe : (job stripe : ℕ) → stripe_count after ≤ stripe → times_held after job stripe ≡ 0
    no_stripe job stripe above =
        let above' : stripe_count before ≤ stripe = omega (arith, same_count) in
        let outside : ltb stripe (stripe_count before) ≡ false = grind (arith, nat_tests) in
        let held = rw outside at (draw_held before pass drawn after step job stripe) in
        let zero' : cond (eqb drawn job) 0 0 ≡ 0 = both (eqb drawn job) in
        omega (arith, held, zero', old.no_stripe job stripe above')
      where
        both : (b : Bool) → ◌≡◌ {A = ℕ} (cond b 0 0) 0
        both true = refl
        both false = refl

-- ---- an addition
histories_after : (before : State) (pass job stripe : ℕ) (after : State) → Adds before pass job stripe after
    → after.histories ≡ set before.histories stripe (history_of before stripe ++ job ∷ [])
histories_after before pass job stripe after step = step.other_histories ∙ ap (λ (h : List ℕ). set before.histories stripe h) step.gives_up.joins_history

add_held : (before : State) (pass job stripe : ℕ) (after : State) → Adds before pass job stripe after → (j k : ℕ)
    → times_held after j k + one_if (eqb job j && eqb stripe k) ≡ times_held before j k
add_held before pass job stripe after step j k =
    let a = held_after before after pass step.is_pass step.other_passes j k in
    let b = right_popped j k (record { job = job; stripe = stripe }) _ _ step.gives_up.gives_right in
    omega (arith, a, b)

-- a right that is held is one of a stripe
add_is_stripe : (jobs : ℕ) (before : State) (pass job stripe : ℕ) (after : State) → IsBalanced jobs before
    → Adds before pass job stripe after → stripe < stripe_count before
add_is_stripe jobs before pass job stripe after old step = elim (cases_lt stripe (stripe_count before)) [ inl h ↦ h | inr above ↦ absurd (no above) ]
  where
    no : stripe_count before ≤ stripe → ⊥
    no above =
        let one : one_if (eqb job job && eqb stripe stripe) ≡ 1 = grind (arith, nat_tests) in
        omega (arith, add_held before pass job stripe after step job stripe, one, old.no_stripe job stripe above)

add_history : (before : State) (pass job stripe : ℕ) (after : State) → Adds before pass job stripe after
    → stripe < stripe_count before → (j k : ℕ)
    → times j (history_of after k) ≡ times j (history_of before k) + one_if (eqb job j && eqb stripe k)
add_history before pass job stripe after step below j k =
    let e : history_of after k ≡ get_or (set before.histories stripe (history_of before stripe ++ job ∷ [])) k [] = ap (λ (h : List (List ℕ)). get_or h k [])
    (histories_after before pass job stripe after step) in
    ap (times j) e ∙ elim (cases_eq k stripe) [ inl same ↦ here e same | inr other ↦ there e other ]
  where
    here : (history_of after k ≡ get_or (set before.histories stripe (history_of before stripe ++ job ∷ [])) k [])
        → k ≡ stripe
        → times j (get_or (set before.histories stripe (history_of before stripe ++ job ∷ [])) k [])
        ≡ times j (history_of before k) + one_if (eqb job j && eqb stripe k)
    here e same =
        subst (λ (k' : ℕ). times j (get_or (set before.histories stripe (history_of before stripe ++ job ∷ [])) k' []) ≡ times j (history_of before k')
        + one_if (eqb job j && eqb stripe k')) (sym same)
        (let at : get_or (set before.histories stripe (history_of before stripe ++ job ∷ [])) stripe [] ≡ history_of before stripe ++ job
        ∷ [] = get_or-set_same before.histories stripe (history_of before stripe ++ job ∷ []) [] below in
        let push = sum_by_push (λ (x : ℕ). cond (eqb x j) 1 0) (history_of before stripe) job in
        let one : one_if (eqb job j && eqb stripe stripe) ≡ one_if (eqb job j) = grind (arith, nat_tests) in
        ap (times j) at ∙ push ∙ ap (λ n. times j (history_of before stripe) + n) (sym one))

    there : (history_of after k ≡ get_or (set before.histories stripe (history_of before stripe ++ job ∷ [])) k [])
        → k ≢ stripe
        → times j (get_or (set before.histories stripe (history_of before stripe ++ job ∷ [])) k [])
        ≡ times j (history_of before k) + one_if (eqb job j && eqb stripe k)
    there e other =
        let at : get_or (set before.histories stripe (history_of before stripe ++ job ∷ [])) k []
        ≡ history_of before k = get_or-set_other before.histories stripe k (history_of before stripe ++ job ∷ []) [] other in
        let zero' : one_if (eqb job j && eqb stripe k) ≡ 0 = grind (arith, nat_tests) in
        omega (arith, ap (times j) at, zero')

add_keeps : (jobs : ℕ) (before : State) (pass job stripe : ℕ) (after : State) → IsBalanced jobs before
    → Adds before pass job stripe after → IsBalanced jobs after
add_keeps jobs before pass job stripe after old step = record { balance = balance; no_stripe = no_stripe; bag_once = bag_once }
  where
    bag_once : (j : ℕ) → times j after.bag ≤ one_if (ltb j jobs)
    bag_once j = let bag : times j after.bag ≡ times j before.bag = ap (times j) step.bag in omega (arith, bag, old.bag_once j)

    below : stripe < stripe_count before
    below = add_is_stripe jobs before pass job stripe after old step

    same_count : stripe_count after ≡ stripe_count before
    same_count = ap length (histories_after before pass job stripe after step) ∙ length-set before.histories stripe (history_of before stripe ++ job ∷ [])

    balance : (j k : ℕ) → k < stripe_count after
        → times j after.bag + times_held after j k + times j (history_of after k) ≡ one_if (ltb j jobs)
    balance j k inside =
        let inside' : k < stripe_count before = omega (arith, same_count) in
        let bag : times j after.bag ≡ times j before.bag = ap (times j) step.bag in
        omega (arith, bag, add_held before pass job stripe after step j k, add_history before pass job stripe after step below j k, old.balance j k inside')

    no_stripe : (j k : ℕ) → stripe_count after ≤ k → times_held after j k ≡ 0
    no_stripe j k above =
        let above' : stripe_count before ≤ k = omega (arith, same_count) in
        omega (arith, add_held before pass job stripe after step j k, old.no_stripe j k above')

-- ---- every list of steps
pub step_keeps : (jobs : ℕ) (before : State) (step : Step) (after : State) → IsBalanced jobs before
    → OneStepLeads before step after → IsBalanced jobs after
step_keeps jobs before (draw pass job) after old step = draw_keeps jobs before pass job after old step
step_keeps jobs before (add pass job stripe) after old step = add_keeps jobs before pass job stripe after old step

pub steps_keep : (jobs : ℕ) {before : State} {steps : List Step} {after : State} → StepsLead before steps after
    → IsBalanced jobs before → IsBalanced jobs after
steps_keep jobs none old = old
steps_keep jobs (first {before} {step} {between} taken rest) old = steps_keep jobs rest (step_keeps jobs before step between old taken)

-- ---- the opening
no_rights : (passes : List (List Right)) → All (λ rights. rights ≡ []) passes → (job stripe : ℕ)
    → sum_by (λ rights. times_right job stripe rights) passes ≡ 0
no_rights [] empty job stripe = refl
no_rights (head ∷ tail) empty job stripe =
    let here : times_right job stripe head ≡ 0 = ap (λ (rights : List Right). times_right job stripe rights) (empty 0 [] (omega arith)) in
    let later : sum_by (λ rights. times_right job stripe rights) tail ≡ 0 = no_rights tail (λ k d below. empty (suc k) d (omega arith)) job stripe in
    omega (arith, sum_by-cons (λ rights. times_right job stripe rights) head tail, here, later)

pub opening_balanced : (jobs : ℕ) (state : State) → IsOpening jobs state → IsBalanced jobs state
opening_balanced jobs state opening = record {
  balance = balance;
  no_stripe = λ job stripe above. no_rights state.passes opening.passes job stripe;
  bag_once = λ job. omega (arith, bag_is job);
}
  where
    bag_is : (job : ℕ) → times job state.bag ≡ one_if (ltb job jobs)
    bag_is job = sum_by-IsPermutation (λ (x : ℕ). cond (eqb x job) 1 0) _ _ opening.bag ∙ times-job_numbers jobs job

    balance : (job stripe : ℕ) → stripe < stripe_count state
        → times job state.bag + times_held state job stripe + times job (history_of state stripe)
        ≡ one_if (ltb job jobs)
    balance job stripe below =
        let history : times job (history_of state stripe) ≡ 0 = ap (times job) (opening.histories stripe [] below) in
        omega (arith, bag_is job, history, no_rights state.passes opening.passes job stripe)

-- in a reached state each job is counted once for each stripe, and at most once in the bag
pub reached_balanced : (jobs : ℕ) (state : State) → IsReached jobs state → IsBalanced jobs state
reached_balanced jobs state (opening, steps, opens, leads) = steps_keep jobs leads (opening_balanced jobs opening opens)

-- where each pass's list is empty, no right is held
pub end_holds_none : (state : State) → All (λ rights. rights ≡ []) state.passes → (job stripe : ℕ)
    → times_held state job stripe ≡ 0
end_holds_none state empty job stripe = no_rights state.passes empty job stripe
