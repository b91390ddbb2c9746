-- Legal histories, and what a complete one replays to.
use Rattle.std.proofs.Common.{◌≡◌, ℕ, zero, suc, ◌+◌, ◌*◌, ◌/◌, ◌%◌, ◌<◌, ◌≤◌, Bool, true, false, cond, eqb, ltb, List, [], ◌∷◌, ◌++◌, length, get_or, refl}
use Rattle.std.proofs.Common.{sym, ap, ◌∙◌, subst, arith, inl, inr}
use Rattle.std.specs.Prelude.{ℤ, ◌+ℤ◌, Contains, All}
use Rattle.std.proofs.Math.IntN.{+ℤ_assoc, +ℤ_comm}
use Rattle.std.proofs.lemmas.List.Sums.{sum_by-cons, sum_by-append}
use Rattle.std.proofs.lemmas.List.Elements.{Contains-get_or}
use Rattle.std.proofs.lemmas.Nat.{same_from_place, div-add-mod', mod_below}
use Rattle.std.proofs.lemmas.Bool.Decides.{nat_tests}
use Rattle.std.proofs.lemmas.Bool.{cases_lt}
use Rattle.def_sums.specs.Sum.{sum_over}
use Rattle.def_history.specs.History.{times, job_numbers, IsLegal, IsComplete, stripe_of, place_of}
use Rattle.def_history.specs.Core.{State, IsReached, history_of, stripe_count}
use Rattle.def_history.specs.Laws.{HistoriesAreLegal, BagIsLegal, IsAtEnd, HistoriesEndComplete, CompleteHistoriesReplayToPlainSums, RowsEndAsPlainSums}
use Rattle.def_history.specs.Laws.{EachRowHasOnePlace}
use Rattle.def_history.proofs.Counts.{one_if, times-cons, times-self, times-job_numbers, times_from_Contains, Contains_from_times}
use Rattle.def_history.proofs.StepsKeepBalance.{IsBalanced, reached_balanced, end_holds_none}

-- ---- legal
legal_at : (jobs : ℕ) (state : State) → IsBalanced jobs state → (stripe : ℕ) → stripe < stripe_count state
    → IsLegal jobs (history_of state stripe)
legal_at jobs state balanced stripe is_stripe = record { once = once; named = named }
  where
    at_most : (b : Bool) → one_if b ≤ 1
    at_most true = omega arith
    at_most false = omega arith

    once : (job : ℕ) → times job (history_of state stripe) ≤ 1
    once job = omega (arith, balanced.balance job stripe is_stripe, at_most (ltb job jobs))

    named : All (λ job. job < jobs) (history_of state stripe)
    named k d below = elim (cases_lt job jobs) [ inl is_job ↦ is_job | inr above ↦ absurd (no above) ]
      where
        job : ℕ
        job = get_or (history_of state stripe) k d

        no : jobs ≤ get_or (history_of state stripe) k d → ⊥
        no above =
            let has = times_from_Contains (get_or (history_of state stripe) k d) (history_of state stripe)
            (Contains-get_or (history_of state stripe) k d below) in
            let none : one_if (ltb (get_or (history_of state stripe) k d) jobs) ≡ 0 = grind (arith, nat_tests) in
            omega (arith, has, none, balanced.balance (get_or (history_of state stripe) k d) stripe is_stripe)

-- in a reached state the bag has nothing but jobs, and none of them twice
pub bag_legal : BagIsLegal
bag_legal jobs state reached = record { once = once; named = named }
  where
    balanced : IsBalanced jobs state
    balanced = reached_balanced jobs state reached

    at_most : (b : Bool) → one_if b ≤ 1
    at_most true = omega arith
    at_most false = omega arith

    once : (job : ℕ) → times job state.bag ≤ 1
    once job = omega (arith, balanced.bag_once job, at_most (ltb job jobs))

    named : All (λ job. job < jobs) state.bag
    named k d below = elim (cases_lt (get_or state.bag k d) jobs) [ inl is_job ↦ is_job | inr above ↦ absurd (no above) ]
      where
        no : jobs ≤ get_or state.bag k d → ⊥
        no above =
            let has = times_from_Contains (get_or state.bag k d) state.bag (Contains-get_or state.bag k d below) in
            let none : one_if (ltb (get_or state.bag k d) jobs) ≡ 0 = grind (arith, nat_tests) in
            omega (arith, has, none, balanced.bag_once (get_or state.bag k d))

-- an element of a list, whatever stands for one past its end
same_element : {X : Type 0} (xs : List X) (k : ℕ) (d e : X) → k < length xs → get_or xs k d ≡ get_or xs k e
same_element [] k d e below = absurd (omega arith)
same_element (x ∷ xs) zero d e below = refl
same_element (x ∷ xs) (suc k) d e below = same_element xs k d e (omega arith)

-- in a reached state every history has nothing but jobs, and none of them twice
pub histories_legal : HistoriesAreLegal
histories_legal jobs state reached k d below =
    let legal = legal_at jobs state (reached_balanced jobs state reached) k below in
    subst (λ (h : List ℕ). IsLegal jobs h) (same_element state.histories k [] d below) legal

-- ---- complete
complete_at : (jobs : ℕ) (state : State) → IsReached jobs state → IsAtEnd state → (stripe : ℕ)
    → stripe < stripe_count state → IsComplete jobs (history_of state stripe)
complete_at jobs state reached (empty, none_held) stripe is_stripe job is_job =
    let balance = (reached_balanced jobs state reached).balance job stripe is_stripe in
    let one : one_if (ltb job jobs) ≡ 1 = grind (arith, nat_tests) in
    let bag : times job state.bag ≡ 0 = ap (times job) empty in
    Contains_from_times job (history_of state stripe) (omega (arith, balance, one, bag, end_holds_none state none_held job stripe))

-- with nothing left to draw or to add, every stripe's history has all jobs
pub ends_complete : HistoriesEndComplete
ends_complete jobs state reached end k d below =
    subst (λ (h : List ℕ). IsComplete jobs h) (same_element state.histories k [] d below) (complete_at jobs state reached end k below)

-- ---- replay: lists that have each number equally often have one sum
-- a list that has a number at least once is a front, this number and what is behind it
pub split_at : (x : ℕ) (ys : List ℕ) → 1 ≤ times x ys → (front : List ℕ) × (back : List ℕ) × (ys ≡ front ++ x ∷ back)
split_at x [] h = absurd (omega arith)
split_at x (y ∷ ys) h = by_head (split_at x ys) (eqb y x) refl
  where
    by_head : (1 ≤ times x ys → (front : List ℕ) × (back : List ℕ) × (ys ≡ front ++ x ∷ back)) → (same : Bool)
        → eqb y x ≡ same → (front : List ℕ) × (back : List ℕ) × (y ∷ ys ≡ front ++ x ∷ back)
    by_head later true e = let is : y ≡ x = grind (arith, nat_tests) in ([], ys, ap (λ z. z ∷ ys) is)
    by_head later false e =
        let none : one_if (eqb y x) ≡ 0 = rw e refl in
        let rest : 1 ≤ times x ys = omega (arith, times-cons x y ys, none, h) in
        from (later rest)
      where
        from : (front : List ℕ) × (back : List ℕ) × (ys ≡ front ++ x ∷ back)
            → (front : List ℕ) × (back : List ℕ) × (y ∷ ys ≡ front ++ x ∷ back)
        from (front, back, is) = (y ∷ front, back, ap (λ zs. y ∷ zs) is)

-- a list with x in its middle has a job as often as without it, and once more where the job is x
pub times-middle : (job x : ℕ) (front back : List ℕ)
    → times job (front ++ x ∷ back) ≡ one_if (eqb x job) + times job (front ++ back)
times-middle job x front back =
    let f : ℕ → ℕ = λ other. cond (eqb other job) 1 0 in
    omega (arith, sum_by-append f front (x ∷ back), sum_by-append f front back, sum_by-cons f x back)

sum_over-middle : (f : ℕ → ℤ) (x : ℕ) (front back : List ℕ)
    → sum_over f (front ++ x ∷ back) ≡ f x +ℤ sum_over f (front ++ back)
sum_over-middle f x [] back = refl
sum_over-middle f x (y ∷ front) back = ap (λ s. f y +ℤ s) (sum_over-middle f x front back) ∙ swap (f y) (f x) (sum_over f (front ++ back))
  where
    swap : (a b c : ℤ) → a +ℤ (b +ℤ c) ≡ b +ℤ (a +ℤ c)
    swap a b c = sym (+ℤ_assoc a b c) ∙ ap (λ s. s +ℤ c) (+ℤ_comm a b) ∙ +ℤ_assoc b a c

nothing_in : (ys : List ℕ) → ((job : ℕ) → 0 ≡ times job ys) → ys ≡ []
nothing_in [] e = refl
nothing_in (y ∷ ys) e = absurd (let a = times-self y ys in let b = e y in omega (arith, a, b))

pub same_sum : (f : ℕ → ℤ) (xs ys : List ℕ) → ((job : ℕ) → times job xs ≡ times job ys) → sum_over f xs ≡ sum_over f ys
same_sum f [] ys same = ap (sum_over f) (sym (nothing_in ys same))
same_sum f (x ∷ xs) ys same = from (same_sum f xs) (split_at x ys (let a = times-self x xs in let b = same x in omega (arith, a, b)))
  where
    from : ((ys' : List ℕ) → ((job : ℕ) → times job xs ≡ times job ys') → sum_over f xs ≡ sum_over f ys')
        → (front : List ℕ) × (back : List ℕ) × (ys ≡ front ++ x ∷ back) → f x +ℤ sum_over f xs ≡ sum_over f ys
    from later (front, back, is) =
        let rest : (job : ℕ) → times job xs ≡ times job (front ++ back) =
        (λ (job : ℕ). let a = times-cons job x xs in let b = same job in let c = times-middle job x front back in let e : times job ys
        ≡ times job (front ++ x ∷ back) = ap (times job) is in omega (arith, a, b, c, e)) in
        ap (λ s. f x +ℤ s) (later (front ++ back) rest) ∙ sym (sum_over-middle f x front back) ∙ ap (sum_over f) (sym is)

-- a history with each job once leaves at a row the sum of all jobs' amounts, whatever its order
pub replays_to_plain_sum : CompleteHistoriesReplayToPlainSums
replays_to_plain_sum jobs history legal complete amount row = same_sum (λ job. amount job row) history (job_numbers jobs) same
  where
    same : (job : ℕ) → times job history ≡ times job (job_numbers jobs)
    same job = elim (cases_lt job jobs) [ inl is_job ↦ inside is_job | inr above ↦ outside above ]
      where
        inside : job < jobs → times job history ≡ times job (job_numbers jobs)
        inside is_job =
            let one : one_if (ltb job jobs) ≡ 1 = grind (arith, nat_tests) in
            omega (arith, times-job_numbers jobs job, one, legal.once job, times_from_Contains job history (complete job is_job))

        outside : jobs ≤ job → times job history ≡ times job (job_numbers jobs)
        outside above =
            let none : one_if (ltb job jobs) ≡ 0 = grind (arith, nat_tests) in
            let not_in : times job history ≤ 0 = elim (cases_lt 0 (times job history))
            [ inl here ↦ absurd (no (Contains_from_times job history here)) | inr zero' ↦ zero' ] in
            omega (arith, times-job_numbers jobs job, none, not_in)
          where
            no : Contains history job → ⊥
            no (k, below, is) = let named = legal.named k job below in let e : get_or history k job ≡ job = is in omega (arith, named, e, above)

-- at the end the history of a row's stripe leaves the sum of all jobs' amounts at that row
pub ends_with_plain_sums : RowsEndAsPlainSums
ends_with_plain_sums jobs state reached end some amount row =
    let is_stripe : row % stripe_count state < stripe_count state = mod_below row (stripe_count state) some in
    replays_to_plain_sum jobs (history_of state (stripe_of (stripe_count state) row))
    (legal_at jobs state (reached_balanced jobs state reached) (row % stripe_count state) is_stripe)
    (complete_at jobs state reached end (row % stripe_count state) is_stripe) amount row

-- ---- rows and stripes
-- where there is a stripe, each row is at its place of its stripe and nowhere else
pub each_row_once : EachRowHasOnePlace
each_row_once stripes row some = record { stripe = mod_below row stripes some; there = div-add-mod' row stripes; alone = alone }
  where
    alone : (stripe place : ℕ) → stripe < stripes → place * stripes + stripe ≡ row
        → (stripe ≡ stripe_of stripes row) × (place ≡ place_of stripes row)
    alone stripe place below is =
        let same = same_from_place place stripe (row / stripes) (row % stripes) stripes below (mod_below row stripes some)
        (is ∙ sym (div-add-mod' row stripes)) in
        (same.1, same.0)
