-- Who holds a right, from the counts.
use Rattle.std.proofs.Common.{◌≡◌, ℕ, suc, ◌+◌, ◌<◌, ◌≤◌, ◌≢◌, ltb, List, [], ◌∷◌, length, get_or, set, refl, sym, ap, ◌∙◌, arith, inl, inr, length-set}
use Rattle.std.specs.Prelude.{Contains, sum_by}
use Rattle.std.proofs.lemmas.List.{get_or-set_other, get_or_past}
use Rattle.std.proofs.lemmas.List.Sums.{sum_by-cons, sum_by-set, get_or-le-sum_by}
use Rattle.std.proofs.lemmas.Bool.Decides.{nat_tests}
use Rattle.std.proofs.lemmas.Bool.{cases_lt, cases_eq}
use Rattle.def_history.specs.History.{times}
use Rattle.def_history.specs.Core.{State, Right, Holder, the_bag, the_pass, Holds, IsGivenUp, times_right, times_held, rights_held, history_of, stripe_count}
use Rattle.def_history.specs.Laws.{EachRightCountsOnce, EachRightHasOneHolder, ARightIsGivenUpByAdding, PassesHoldRightsOfJobsAndStripes}
use Rattle.def_history.proofs.Counts.{one_if, times_from_Contains, Contains_from_times, times_right_from_Contains, Contains_from_times_right}
use Rattle.def_history.proofs.StepsKeepBalance.{IsBalanced, reached_balanced}

-- for each job and stripe: the bag, the passes and the history have it once between them
pub counts_once : EachRightCountsOnce
counts_once jobs state reached job stripe is_job is_stripe =
    let one : one_if (ltb job jobs) ≡ 1 = grind (arith, nat_tests) in
    let b = (reached_balanced jobs state reached).balance job stripe is_stripe in
    b ∙ one

-- an element of a sum that isn't 0
some_positive : {X : Type 0} (f : X → ℕ) (d : X) (xs : List X) → 1 ≤ sum_by f xs
    → (i : ℕ) × (i < length xs) × (1 ≤ f (get_or xs i d))
some_positive f d [] h = absurd (omega arith)
some_positive f d (x ∷ xs) h = elim (cases_lt 0 (f x)) [
  | inl here ↦ (0, omega arith, here)
  | inr none ↦ later
      (some_positive f d xs (omega (arith, sum_by-cons f x xs, h, none)))
]
  where
    later : ((i : ℕ) × (i < length xs) × (1 ≤ f (get_or xs i d)))
        → (i : ℕ) × (i < length (x ∷ xs)) × (1 ≤ f (get_or (x ∷ xs) i d))
    later (i, below, at) = (suc i, omega arith, at)

-- two elements of a sum
two_positive : {X : Type 0} (f : X → ℕ) (d : X) (xs : List X) (i j : ℕ) → f d ≡ 0 → i < length xs → j < length xs
    → i ≢ j → f (get_or xs i d) + f (get_or xs j d) ≤ sum_by f xs
two_positive f d xs i j none in_i in_j apart =
    let a = sum_by-set f xs i d d in_i in
    let b : f (get_or (set xs i d) j d) ≤ sum_by f (set xs i d) = get_or-le-sum_by f (set xs i d) j d (let e = length-set xs i d in omega (arith, e)) in
    let turned : j ≢ i = λ e. apart (sym e) in
    let c : f (get_or (set xs i d) j d) ≡ f (get_or xs j d) = ap f (get_or-set_other xs i j d d turned) in
    omega (arith, a, b, c, none)

-- a pass that holds a right is a pass
is_pass : (state : State) (pass job stripe : ℕ) → 1 ≤ times_right job stripe (rights_held state pass)
    → pass < length state.passes
is_pass state pass job stripe h = elim (cases_lt pass (length state.passes)) [ inl below ↦ below | inr past ↦ absurd (no past) ]
  where
    no : length state.passes ≤ pass → ⊥
    no past =
        let none : times_right job stripe (rights_held state pass) ≡ 0 = ap (λ (rights : List Right). times_right job stripe rights)
        (get_or_past state.passes pass [] past) in
        omega (arith, h, none)

held_by_pass : (state : State) (pass job stripe : ℕ) → Holds state (the_pass pass) job stripe
    → 1 ≤ times_held state job stripe
held_by_pass state pass job stripe holds =
    let one = times_right_from_Contains job stripe (rights_held state pass) holds in
    let below = is_pass state pass job stripe one in
    let le = get_or-le-sum_by (λ rights. times_right job stripe rights) state.passes pass [] below in
    omega (arith, one, le)

-- what a pass holds is the right of a job of the run for one of its stripes
pub only_rights : PassesHoldRightsOfJobsAndStripes
only_rights jobs state reached pass job stripe holds = (is_job, is_stripe)
  where
    balanced : IsBalanced jobs state
    balanced = reached_balanced jobs state reached

    is_stripe : stripe < stripe_count state
    is_stripe = elim (cases_lt stripe (stripe_count state)) [
      | inl below ↦ below
      | inr above ↦ absurd
          (let a = held_by_pass state pass job stripe holds in let b = balanced.no_stripe job stripe above in omega (arith, a, b))
    ]

    is_job : job < jobs
    is_job = elim (cases_lt job jobs) [
      | inl below ↦ below
      | inr above ↦ absurd
          (let a = held_by_pass state pass job stripe holds in
          let b = balanced.balance job stripe is_stripe in
          let c : one_if (ltb job jobs) ≡ 0 = grind (arith, nat_tests) in
          omega (arith, a, b, c))
    ]

-- each right has exactly one holder, or nobody holds it any more
pub holds_or_gives_up : EachRightHasOneHolder
holds_or_gives_up jobs state reached job stripe is_job is_stripe =
    elim (cases_lt 0 (times job state.bag)) [
      | inl here ↦ inl (the_bag, Contains_from_times job state.bag here, only_bag here)
      | inr no_bag ↦ elim (cases_lt 0 (times_held state job stripe)) [
        | inl here ↦ inl (with_pass no_bag here)
        | inr no_pass ↦ inr (given_up no_bag no_pass)
      ]
    ]
  where
    once : times job state.bag + times_held state job stripe + times job (history_of state stripe) ≡ 1
    once = counts_once jobs state reached job stripe is_job is_stripe

    only_bag : 0 < times job state.bag → (other : Holder) → Holds state other job stripe → other ≡ the_bag
    only_bag here the_bag holds = refl
    only_bag here (the_pass pass) holds = absurd (let a = held_by_pass state pass job stripe holds in omega (arith, a, here, once))

    with_pass : times job state.bag ≤ 0 → 0 < times_held state job stripe
        → (holder : Holder) × Holds state holder job stripe
        × ((other : Holder) → Holds state other job stripe → other ≡ holder)
    with_pass no_bag here = from (some_positive (λ rights. times_right job stripe rights) [] state.passes here)
      where
        from : (i : ℕ) × (i < length state.passes) × (1 ≤ times_right job stripe (get_or state.passes i []))
            → (holder : Holder) × Holds state holder job stripe
            × ((other : Holder) → Holds state other job stripe → other ≡ holder)
        from (pass, below, at) = (the_pass pass, Contains_from_times_right job stripe (rights_held state pass) at, only)
          where
            only : (other : Holder) → Holds state other job stripe → other ≡ the_pass pass
            only the_bag holds = absurd (let a = times_from_Contains job state.bag holds in omega (arith, a, no_bag))
            only (the_pass other) holds = elim (cases_eq other pass) [ inl same ↦ ap the_pass same | inr apart ↦ absurd (two apart) ]
              where
                two : other ≢ pass → ⊥
                two apart =
                    let one = times_right_from_Contains job stripe (rights_held state other) holds in
                    let below' = is_pass state other job stripe one in
                    let sum = two_positive (λ rights. times_right job stripe rights) [] state.passes other pass refl below' below apart in
                    omega (arith, one, at, sum, once)

    given_up : times job state.bag ≤ 0 → times_held state job stripe ≤ 0 → IsGivenUp state job stripe
    given_up no_bag no_pass the_bag holds = let a = times_from_Contains job state.bag holds in omega (arith, a, no_bag)
    given_up no_bag no_pass (the_pass pass) holds = let a = held_by_pass state pass job stripe holds in omega (arith, a, no_pass)

-- nobody holds a right any more exactly where its job is in its stripe's history
pub gives_up_by_adding : ARightIsGivenUpByAdding
gives_up_by_adding jobs state reached job stripe is_job is_stripe = (added, given_up)
  where
    once : times job state.bag + times_held state job stripe + times job (history_of state stripe) ≡ 1
    once = counts_once jobs state reached job stripe is_job is_stripe

    added : IsGivenUp state job stripe → Contains (history_of state stripe) job
    added nobody = Contains_from_times job (history_of state stripe) (omega (arith, once, no_bag, no_pass))
      where
        no_bag : times job state.bag ≤ 0
        no_bag = elim (cases_lt 0 (times job state.bag)) [ inl here ↦ absurd (nobody the_bag (Contains_from_times job state.bag here)) | inr none ↦ none ]

        no_pass : times_held state job stripe ≤ 0
        no_pass = elim (cases_lt 0 (times_held state job stripe)) [
          | inl here ↦ absurd
              (from (some_positive (λ rights. times_right job stripe rights) [] state.passes here))
          | inr none ↦ none
        ]
          where
            from : (i : ℕ) × (i < length state.passes) × (1 ≤ times_right job stripe (get_or state.passes i [])) → ⊥
            from (pass, below, at) = nobody (the_pass pass) (Contains_from_times_right job stripe (rights_held state pass) at)

    given_up : Contains (history_of state stripe) job → IsGivenUp state job stripe
    given_up has the_bag holds =
        let a = times_from_Contains job (history_of state stripe) has in
        let b = times_from_Contains job state.bag holds in
        omega (arith, a, b, once)
    given_up has (the_pass pass) holds =
        let a = times_from_Contains job (history_of state stripe) has in
        let b = held_by_pass state pass job stripe holds in
        omega (arith, a, b, once)
