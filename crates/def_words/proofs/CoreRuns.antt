-- Steps on the words as steps of the core.
use Rattle.std.proofs.Common.{◌≡◌, ◌≢◌, ℕ, zero, suc, ◌+◌, ◌-◌, ◌*◌, ◌%◌, ◌<◌, ◌≤◌, ◌&&◌, Bool, true, false, cond, ltb, List, [], ◌∷◌, ◌++◌, length, get_or}
use Rattle.std.proofs.Common.{set, replicate, ℤ, slice_index, refl, sym, ap, ◌∙◌, subst, inl, inr, arith}
use Rattle.std.specs.Prelude.{IsPermutation, All}
use Rattle.std.specs.List.{range_with_len}
use mathlib.Core.Option.{some, some-injective, some-ne-none}
use lib.ListN.{get_elem?}
use Rattle.std.proofs.lemmas.Bool.{cases_eq, ltb-true, ltb-false}
use Rattle.std.proofs.lemmas.Bool.Decides.{nat_tests}
use Rattle.std.proofs.lemmas.List.{length-append, length-replicate, length-set, get_or-set_same, get_or-set_other, get_or_default}
use Rattle.std.proofs.lemmas.List.Elements.{All-nil, All-cons}
use Rattle.std.proofs.lemmas.List.Sorted.{IsPermutation-refl}
use Rattle.std.proofs.Math.Nat.{mod-eq_of_lt}
use Rattle.def_sums.specs.Sum.{nat_sum_over}
use Rattle.def_sums.specs.Limits.{most_workers}
use Rattle.def_history.specs.History.{job_numbers}
use Rattle.def_history.specs.Core.{Right, Draws, Adds, StepsLead, none, first, history_of, rights_of, stripe_count, draw, add as core_add}
use Rattle.def_history.specs.Core.{State as CoreState, Step as CoreStep, IsReached as IsReachedInCore, rights_held as rights_of_pass}
use Rattle.def_history.specs.Locks.{with_bag, with_history}
use Rattle.def_history.proofs.Locks.{local_steps_are_steps}
use Rattle.def_words.specs.declared.view.View.{View}
use Rattle.def_words.specs.declared.view.View.TheVariants.{Owner, Worker, Spent}
use Rattle.def_words.specs.Views.{worker_count}
use Rattle.def_words.specs.Amounts.{AreSmall, side_of, word_at}
use Rattle.def_words.specs.Rule.{AreWordsKept}
use Rattle.def_words.specs.Steps.{WordState, WordStep, claim, add, split, join, close, OneStepLeads, AreWordsReached, at_first, after_step, Claims}
use Rattle.def_words.specs.Steps.{Adds as AddsWord, Splits, Joins, opening_words}
use Rattle.def_words.specs.CoreSteps.{has_left, unclaimed, view_at, last_number, rights_held, rights_in, Shows, core_steps, StepsAreCoreSteps, RunsAreCoreRuns}
use Rattle.def_words.specs.CoreSteps.{ClosesAtTheEnd}
use Rattle.def_words.proofs.Sums.{elem_set_other}
use Rattle.def_words.proofs.Moves.{all_out, claims_few, owner_no_worker, word_after, word_other, word_not_zero}
use Rattle.def_words.proofs.Runs.{close_with_sums, reached_kept, step_keeps, zero_word}
use Rattle.def_words.proofs.Held.{held_none, held_some, unclaimed_more, unclaimed_none}

-- ---- elements
elem_is : {A : Type 0} (xs : List A) (i : ℕ) (x d : A) → get_elem? xs i ≡ some x → get_or xs i d ≡ x
elem_is [] i x d e = absurd (some-ne-none x (sym e))
elem_is (y ∷ ys) zero x d e = some-injective y x e
elem_is (y ∷ ys) (suc i) x d e = elem_is ys i x d e

elem_below : {A : Type 0} (xs : List A) (i : ℕ) (x : A) → get_elem? xs i ≡ some x → i < length xs
elem_below [] i x e = absurd (some-ne-none x (sym e))
elem_below (y ∷ ys) zero x e = omega arith
elem_below (y ∷ ys) (suc i) x e = let r = elem_below ys i x e in omega (arith, r)

module _ (jobs rows : ℕ) (amount : ℕ → ℕ → ℤ) where
  abbrev held_at : List View → ℕ → List Right
  held_at views seat = rights_in jobs rows amount (get_or views seat Spent)

  -- a view that holds the same rights changes nothing
  same_after_set : (views : List View) (seat : ℕ) (v w : View) → get_elem? views seat ≡ some v → rights_in jobs rows amount w ≡ rights_in jobs rows amount v
      → (s : ℕ) → held_at (set views seat w) s ≡ held_at views s
  same_after_set [] seat v w at same s = absurd (some-ne-none v (sym at))
  same_after_set (x ∷ xs) zero v w at same zero = same ∙ ap (rights_in jobs rows amount) (sym (some-injective x v at))
  same_after_set (x ∷ xs) zero v w at same (suc s) = refl
  same_after_set (x ∷ xs) (suc seat) v w at same zero = refl
  same_after_set (x ∷ xs) (suc seat) v w at same (suc s) = same_after_set xs seat v w at same s

  same_after_push : (views : List View) (w : View) → rights_in jobs rows amount w ≡ [] → (s : ℕ) → held_at (views ++ w ∷ []) s ≡ held_at views s
  same_after_push [] w none_held zero = none_held
  same_after_push [] w none_held (suc s) = refl
  same_after_push (x ∷ xs) w none_held zero = refl
  same_after_push (x ∷ xs) w none_held (suc s) = same_after_push xs w none_held s

  -- a pass and a view that change alike
  both_set : (passes : List (List Right)) (views : List View) (seat : ℕ) (held : List Right) (w : View) → seat < length passes → seat < length views
      → rights_in jobs rows amount w ≡ held → ((s : ℕ) → get_or passes s [] ≡ held_at views s)
      → (s : ℕ) → get_or (set passes seat held) s [] ≡ held_at (set views seat w) s
  both_set passes views seat held w is_pass is_seat same before s = elim (cases_eq s seat) [
    | inl here ↦ subst (λ k. get_or (set passes seat held) k [] ≡ held_at (set views seat w) k) (sym here)
        (get_or-set_same passes seat held [] is_pass ∙ sym same ∙ ap (rights_in jobs rows amount) (sym (get_or-set_same views seat w Spent is_seat)))
    | inr other ↦ (get_or-set_other passes seat s held [] other ∙ before s
        ∙ ap (rights_in jobs rows amount) (sym (get_or-set_other views seat s w Spent other)))
  ]

  -- the rights of a worker whose last number is this one
  held_by : (b c : Bool) (reached n : ℕ) (ns : List ℕ) → ltb n jobs ≡ b → has_left amount reached n rows ≡ c
      → rights_held jobs rows amount reached (n ∷ ns) ≡ cond (b && c) (rights_of n 1) []
  held_by b c reached n ns e f = λ i. cond (e i && f i) (rights_of n 1) []

  -- where steps lead, and what shows there
  record Led (core : CoreState) (steps : List CoreStep) (after : WordState) : Type 0 where
    next : CoreState
    leads : StepsLead core steps next
    shows : Shows jobs rows amount after next
    count : length next.passes ≡ length core.passes

-- ---- steps of the core
set_twice : {A : Type 0} (xs : List A) (i : ℕ) (x y : A) → set (set xs i x) i y ≡ set xs i y
set_twice [] i x y = refl
set_twice (z ∷ zs) zero x y = refl
set_twice (z ∷ zs) (suc i) x y = ap (λ ys. z ∷ ys) (set_twice zs i x y)

adds_to : (core : CoreState) (seat job : ℕ) → stripe_count core ≡ 1 → seat < length core.passes → rights_of_pass core seat ≡ rights_of job 1
    → Adds core seat job 0 (with_history core seat 0 (history_of core 0 ++ job ∷ []) [])
adds_to core seat job stripes is_pass held =
    local_steps_are_steps.under_a_stripe core seat job 0 (history_of core 0 ++ job ∷ []) [] is_pass (omega (arith, stripes))
    (record { gives_right = subst (λ r. IsPermutation r (rights_of job 1)) (sym held) (IsPermutation-refl (rights_of job 1)); joins_history = refl })

draws_to : (jobs : ℕ) (core : CoreState) (seat n : ℕ) → n < jobs → core.bag ≡ unclaimed jobs n → stripe_count core ≡ 1 → seat < length core.passes
    → rights_of_pass core seat ≡ []
    → Draws core seat n (with_bag core seat (unclaimed jobs (n + 1)) (rights_of n 1))
draws_to jobs core seat n is_job bag stripes is_pass held =
    local_steps_are_steps.under_the_bag core seat n (unclaimed jobs (n + 1)) (rights_of n 1) is_pass
    (record {
      held_none = held;
      leaves_bag = subst (λ b. IsPermutation b (n ∷ unclaimed jobs (n + 1))) (sym (bag ∙ unclaimed_more jobs n is_job))
          (IsPermutation-refl (n ∷ unclaimed jobs (n + 1)));
      gets_rights = subst (λ k. IsPermutation (rights_of n k) (rights_of n 1)) (sym stripes) (IsPermutation-refl (rights_of n 1));
    })

-- ---- claim
abbrev steps_of_claim : Bool → Bool → ℕ → ℕ → List CoreStep
steps_of_claim b c seat n = cond b (draw seat n ∷ cond c [] (core_add seat n 0 ∷ [])) []

claim_led : (jobs rows : ℕ) (amount : ℕ → ℕ → ℤ) (before : WordState) (seat : ℕ) (after : WordState) (core : CoreState)
    → AreSmall jobs rows amount → AreWordsKept jobs rows amount before.words before.views → Claims jobs rows amount before seat after
    → Shows jobs rows amount before core → length after.views ≤ length core.passes
    → Led jobs rows amount core (core_steps jobs rows amount before (claim seat)) after
claim_led jobs rows amount before seat after core small kept s shows seats = by_case (ltb n jobs) (has_left amount 0 n rows) refl refl
  where
    n : ℕ
    n = slice_index before.words 0

    new : View
    new = Worker (n ∷ s.numbers) 0

    is_seat : seat < length before.views
    is_seat = elem_below before.views seat (Worker s.numbers s.reached) s.worker

    is_pass : seat < length core.passes
    is_pass = let a = is_seat in omega (arith, a, shows.seats)

    idle : rights_of_pass core seat ≡ []
    idle = shows.passes seat ∙ ap (rights_in jobs rows amount) (elem_is before.views seat (Worker s.numbers s.reached) Spent s.worker)
        ∙ held_none jobs rows amount s.reached s.numbers s.complete

    one_more : slice_index after.words 0 ≡ n + 1
    one_more =
        let few : n ≤ jobs + most_workers = claims_few jobs rows amount before.words before.views kept in
        ap (λ ws. slice_index ws 0) s.words ∙ word_after before.words 0 ((n + 1) % 18446744073709551616) (omega (arith, kept.count))
        ∙ mod-eq_of_lt (omega (arith, few, small.few))

    drawn : CoreState
    drawn = with_bag core seat (unclaimed jobs (n + 1)) (rights_of n 1)

    draws : ltb n jobs ≡ true → Draws core seat n drawn
    draws e = draws_to jobs core seat n (ltb-true n jobs e) shows.bag shows.stripes is_pass idle

    has_drawn : rights_of_pass drawn seat ≡ rights_of n 1
    has_drawn = get_or-set_same core.passes seat (rights_of n 1) [] is_pass

    drawn_pass : seat < length drawn.passes
    drawn_pass = let a = is_pass in let b = length-set core.passes seat (rights_of n 1) in omega (arith, a, b)

    views_after : (s' : ℕ) → held_at jobs rows amount (set before.views seat new) s' ≡ rights_in jobs rows amount (view_at after s')
    views_after s' = ap (λ (vs : List View). held_at jobs rows amount vs s') (sym s.views)

    by_case : (b c : Bool) → ltb n jobs ≡ b → has_left amount 0 n rows ≡ c → Led jobs rows amount core (steps_of_claim b c seat n) after
    by_case true true e f = record {
      next = drawn;
      leads = first (draws e) none;
      shows = record {
        bag = ap (unclaimed jobs) (sym one_more);
        passes = λ s'. both_set jobs rows amount core.passes before.views seat (rights_of n 1) new is_pass is_seat
            (held_by jobs rows amount true true 0 n s.numbers e f) shows.passes s' ∙ views_after s';
        stripes = shows.stripes;
        seats = let a = length-set core.passes seat (rights_of n 1) in omega (arith, a, seats);
      };
      count = length-set core.passes seat (rights_of n 1);
    }
    by_case true false e f = record {
      next = with_history drawn seat 0 (history_of drawn 0 ++ n ∷ []) [];
      leads = first (draws e) (first (adds_to drawn seat n shows.stripes drawn_pass has_drawn) none);
      shows = record {
        bag = ap (unclaimed jobs) (sym one_more);
        passes = λ s'. ap (λ ps. get_or ps s' []) (set_twice core.passes seat (rights_of n 1) [])
            ∙ both_set jobs rows amount core.passes before.views seat [] new is_pass is_seat (held_by jobs rows amount true false 0 n s.numbers e f)
            shows.passes s' ∙ views_after s';
        stripes = length-set core.histories 0 (history_of core 0 ++ n ∷ []) ∙ shows.stripes;
        seats = let a = length-set core.passes seat (rights_of n 1) in let b = length-set (set core.passes seat (rights_of n 1)) seat [] in omega
            (arith, a, b, seats);
      };
      count = length-set (set core.passes seat (rights_of n 1)) seat [] ∙ length-set core.passes seat (rights_of n 1);
    }
    by_case false c e f = record {
      next = core;
      leads = none;
      shows = record {
        bag = shows.bag ∙ unclaimed_none jobs n (ltb-false n jobs e) ∙ sym (unclaimed_none jobs (n + 1) (let a = ltb-false n jobs e in omega (arith, a)))
            ∙ ap (unclaimed jobs) (sym one_more);
        passes = λ s'. shows.passes s' ∙ sym (same_after_set jobs rows amount before.views seat (Worker s.numbers s.reached) new s.worker
            (held_by jobs rows amount false c 0 n s.numbers e f ∙ sym (held_none jobs rows amount s.reached s.numbers s.complete)) s') ∙ views_after s';
        stripes = shows.stripes;
        seats = seats;
      };
      count = refl;
    }

-- ---- add
add_led : (jobs rows : ℕ) (amount : ℕ → ℕ → ℤ) (before : WordState) (seat row : ℕ) (after : WordState) (core : CoreState)
    → AreWordsKept jobs rows amount before.words before.views → AddsWord jobs rows amount before seat row after
    → Shows jobs rows amount before core → length after.views ≤ length core.passes
    → Led jobs rows amount core (core_steps jobs rows amount before (add seat row)) after
add_led jobs rows amount before seat row after core kept s shows seats =
    subst (λ j. Led jobs rows amount core (cond (has_left amount (row + 1) j rows) [] (core_add seat j 0 ∷ [])) after) (sym last_is)
    (by_case (has_left amount (row + 1) s.job rows) refl)
  where
    old : View
    old = Worker (s.job ∷ s.earlier) s.reached

    new : View
    new = Worker (s.job ∷ s.earlier) (row + 1)

    last_is : last_number (view_at before seat) ≡ s.job
    last_is = ap last_number (elem_is before.views seat old Spent s.worker)

    is_seat : seat < length before.views
    is_seat = elem_below before.views seat old s.worker

    is_pass : seat < length core.passes
    is_pass = let a = is_seat in omega (arith, a, shows.seats)

    held : rights_in jobs rows amount old ≡ rights_of s.job 1
    held = held_some jobs rows amount s.reached row s.job s.earlier s.is_job s.from_reached s.is_row s.some_amount

    has_right : rights_of_pass core seat ≡ rights_of s.job 1
    has_right = shows.passes seat ∙ ap (rights_in jobs rows amount) (elem_is before.views seat old Spent s.worker) ∙ held

    is_one : ltb s.job jobs ≡ true
    is_one = let a = s.is_job in grind (arith, nat_tests, a)

    same_word : slice_index after.words 0 ≡ slice_index before.words 0
    same_word = ap (λ ws. slice_index ws 0) s.words ∙ word_other before.words (word_at (side_of (amount s.job row)) row) 0 _
        (λ e. word_not_zero (side_of (amount s.job row)) row (sym e))

    views_after : (s' : ℕ) → held_at jobs rows amount (set before.views seat new) s' ≡ rights_in jobs rows amount (view_at after s')
    views_after s' = ap (λ (vs : List View). held_at jobs rows amount vs s') (sym s.views)

    by_case : (c : Bool) → has_left amount (row + 1) s.job rows ≡ c → Led jobs rows amount core (cond c [] (core_add seat s.job 0 ∷ [])) after
    by_case true f = record {
      next = core;
      leads = none;
      shows = record {
        bag = shows.bag ∙ ap (unclaimed jobs) (sym same_word);
        passes = λ s'. shows.passes s' ∙ sym (same_after_set jobs rows amount before.views seat old new s.worker
            (held_by jobs rows amount true true (row + 1) s.job s.earlier is_one f ∙ sym held) s') ∙ views_after s';
        stripes = shows.stripes;
        seats = seats;
      };
      count = refl;
    }
    by_case false f = record {
      next = with_history core seat 0 (history_of core 0 ++ s.job ∷ []) [];
      leads = first (adds_to core seat s.job shows.stripes is_pass has_right) none;
      shows = record {
        bag = shows.bag ∙ ap (unclaimed jobs) (sym same_word);
        passes = λ s'. both_set jobs rows amount core.passes before.views seat [] new is_pass is_seat
            (held_by jobs rows amount true false (row + 1) s.job s.earlier is_one f) shows.passes s' ∙ views_after s';
        stripes = length-set core.histories 0 (history_of core 0 ++ s.job ∷ []) ∙ shows.stripes;
        seats = let a = length-set core.passes seat [] in omega (arith, a, seats);
      };
      count = length-set core.passes seat [];
    }

-- ---- the other steps
-- where no seat holds other rights and the claim word stays, the core stays
stays_led : (jobs rows : ℕ) (amount : ℕ → ℕ → ℤ) (before after : WordState) (core : CoreState)
    → after.words ≡ before.words → ((s : ℕ) → rights_in jobs rows amount (view_at before s) ≡ rights_in jobs rows amount (view_at after s))
    → Shows jobs rows amount before core → length after.views ≤ length core.passes → Led jobs rows amount core [] after
stays_led jobs rows amount before after core words same shows seats = record {
  next = core;
  leads = none;
  shows = record {
    bag = shows.bag ∙ ap (λ ws. unclaimed jobs (slice_index ws 0)) (sym words);
    passes = λ s. shows.passes s ∙ same s;
    stripes = shows.stripes;
    seats = seats;
  };
  count = refl;
}

split_same : (jobs rows : ℕ) (amount : ℕ → ℕ → ℤ) (before : WordState) (seat : ℕ) (after : WordState) → Splits jobs rows amount before seat after
    → (s : ℕ) → rights_in jobs rows amount (view_at before s) ≡ rights_in jobs rows amount (view_at after s)
split_same jobs rows amount before seat after sp s =
    let old : View = Owner sp.numbers sp.made sp.unjoined in
    let new : View = Owner sp.numbers (sp.made + 1) (sp.unjoined + 1) in
    sym (same_after_set jobs rows amount before.views seat old new sp.owner refl s)
    ∙ sym (same_after_push jobs rows amount (set before.views seat new) (Worker [] 0) refl s)
    ∙ ap (λ (vs : List View). held_at jobs rows amount vs s) (sym sp.views)

join_same : (jobs rows : ℕ) (amount : ℕ → ℕ → ℤ) (before : WordState) (seat other : ℕ) (after : WordState) → Joins jobs rows amount before seat other after
    → (s : ℕ) → rights_in jobs rows amount (view_at before s) ≡ rights_in jobs rows amount (view_at after s)
join_same jobs rows amount before seat other after j s =
    let old : View = Owner j.numbers j.made j.unjoined in
    let new : View = Owner (j.worker_numbers ++ j.numbers) j.made (j.unjoined - 1) in
    let worker : View = Worker j.worker_numbers j.reached in
    let apart : other ≢ seat = λ same. owner_no_worker j.numbers j.made j.unjoined j.worker_numbers j.reached
    (some-injective old worker (sym j.owner ∙ ap (get_elem? before.views) (sym same) ∙ j.worker)) in
    let there : get_elem? (set before.views seat new) other ≡ some worker = elem_set_other before.views seat other new apart ∙ j.worker in
    sym (same_after_set jobs rows amount before.views seat old new j.owner refl s)
    ∙ sym (same_after_set jobs rows amount (set before.views seat new) other worker Spent there
    (sym (held_none jobs rows amount j.reached j.worker_numbers j.complete)) s)
    ∙ ap (λ (vs : List View). held_at jobs rows amount vs s) (sym j.views)

led : (jobs rows : ℕ) (amount : ℕ → ℕ → ℤ) (before : WordState) (step : WordStep) (after : WordState) (core : CoreState)
    → AreSmall jobs rows amount → AreWordsKept jobs rows amount before.words before.views → OneStepLeads jobs rows amount before step after
    → Shows jobs rows amount before core → length after.views ≤ length core.passes
    → Led jobs rows amount core (core_steps jobs rows amount before step) after
led jobs rows amount before (claim seat) after core small kept s shows seats = claim_led jobs rows amount before seat after core small kept s shows seats
led jobs rows amount before (add seat row) after core small kept s shows seats = add_led jobs rows amount before seat row after core kept s shows seats
led jobs rows amount before (split seat) after core small kept s shows seats = stays_led jobs rows amount before after core s.words
    (split_same jobs rows amount before seat after s) shows seats
led jobs rows amount before (join seat other) after core small kept s shows seats = stays_led jobs rows amount before after core s.words
    (join_same jobs rows amount before seat other after s) shows seats
led jobs rows amount before (close seat) after core small kept s shows seats =
    stays_led jobs rows amount before after core (ap (λ (t : WordState). t.words) s.same)
    (λ k. ap (λ (t : WordState). rights_in jobs rows amount (view_at t k)) (sym s.same)) shows seats

pub steps_lead : StepsAreCoreSteps
steps_lead jobs rows amount before step after core small kept s shows seats =
    let l = led jobs rows amount before step after core small kept s shows seats in (l.next, l.leads, l.shows)

-- ---- whole runs
steps_after : {before : CoreState} {steps : List CoreStep} {between : CoreState} {more : List CoreStep} {after : CoreState}
    → StepsLead before steps between → StepsLead between more after → StepsLead before (steps ++ more) after
steps_after none later = later
steps_after (first step rest) later = first step (steps_after rest later)

-- no step takes a seat away
more_seats : (jobs rows : ℕ) (amount : ℕ → ℕ → ℤ) (before : WordState) (step : WordStep) (after : WordState) → OneStepLeads jobs rows amount before step after
    → length before.views ≤ length after.views
more_seats jobs rows amount before (claim seat) after s = let a = ap length s.views in let b = length-set before.views seat
    (Worker (slice_index before.words 0 ∷ s.numbers) 0) in omega (arith, a, b)
more_seats jobs rows amount before (add seat row) after s = let a = ap length s.views in let b = length-set before.views seat
    (Worker (s.job ∷ s.earlier) (row + 1)) in omega (arith, a, b)
more_seats jobs rows amount before (split seat) after s =
    let new : View = Owner s.numbers (s.made + 1) (s.unjoined + 1) in
    let a = ap length s.views in
    let b = length-append (set before.views seat new) (Worker [] 0 ∷ []) in
    let c = length-set before.views seat new in
    omega (arith, a, b, c)
more_seats jobs rows amount before (join seat other) after s =
    let new : View = Owner (s.worker_numbers ++ s.numbers) s.made (s.unjoined - 1) in
    let a = ap length s.views in
    let b = length-set (set before.views seat new) other Spent in
    let c = length-set before.views seat new in
    omega (arith, a, b, c)
more_seats jobs rows amount before (close seat) after s = let a = ap (λ (t : WordState). length t.views) s.same in omega (arith, a)

-- a run of the core with so many passes
record CoreRun (jobs rows : ℕ) (amount : ℕ → ℕ → ℤ) (state : WordState) (passes : ℕ) : Type 0 where
  core : CoreState
  reached : IsReachedInCore jobs core
  shows : Shows jobs rows amount state core
  count : length core.passes ≡ passes

abbrev core_opening : ℕ → ℕ → CoreState
core_opening jobs passes = record { bag = job_numbers jobs; passes = replicate passes []; histories = [] ∷ [] }

nothing_held : (passes s : ℕ) → get_or {A = List Right} (replicate passes []) s [] ≡ []
nothing_held zero s = refl
nothing_held (suc passes) zero = refl
nothing_held (suc passes) (suc s) = nothing_held passes s

all_nothing : (passes : ℕ) → All (λ (rights : List Right). rights ≡ []) (replicate passes [])
all_nothing zero = All-nil (λ (rights : List Right). rights ≡ [])
all_nothing (suc passes) = All-cons (λ (rights : List Right). rights ≡ []) [] (replicate passes []) refl (all_nothing passes)

first_idle : (jobs rows : ℕ) (amount : ℕ → ℕ → ℤ) (s : ℕ) → [] ≡ rights_in jobs rows amount (view_at (opening_words rows) s)
first_idle jobs rows amount zero = refl
first_idle jobs rows amount (suc s) = refl

first_shows : (jobs rows : ℕ) (amount : ℕ → ℕ → ℤ) (passes : ℕ) → 1 ≤ passes → CoreRun jobs rows amount (opening_words rows) passes
first_shows jobs rows amount passes some_pass =
    let none_gone : jobs ≡ jobs - 0 = omega arith in record {
      core = core_opening jobs passes;
      reached = (
        core_opening jobs passes,
        [],
        record {
          bag = IsPermutation-refl (job_numbers jobs);
          passes = all_nothing passes;
          histories = All-cons (λ (history : List ℕ). history ≡ []) [] [] refl (All-nil (λ (history : List ℕ). history ≡ []));
        },
        none,
      );
      shows = record {
        bag = ap (range_with_len 0) none_gone ∙ ap (unclaimed jobs) (sym (zero_word (2 * rows + 1) 0));
        passes = λ s. nothing_held passes s ∙ first_idle jobs rows amount s;
        stripes = refl;
        seats = let a = length-replicate {A = List Right} passes [] in omega (arith, a, some_pass);
      };
      count = length-replicate passes [];
    }

core_run : (jobs rows : ℕ) (amount : ℕ → ℕ → ℤ) (state : WordState) (passes : ℕ) → AreSmall jobs rows amount → AreWordsReached jobs rows amount state
    → length state.views ≤ passes → CoreRun jobs rows amount state passes
core_run jobs rows amount state passes small at_first seats = first_shows jobs rows amount passes seats
core_run jobs rows amount state passes small (after_step {before} step run s) seats =
    let grown = more_seats jobs rows amount before step state s in
    let r = core_run jobs rows amount before passes small run (omega (arith, grown, seats)) in
    let l = led jobs rows amount before step state r.core small (reached_kept jobs rows amount before small run) s r.shows
    (let c = r.count in omega (arith, c, seats)) in
    record {
      core = l.next;
      reached = (let o = r.reached in (o.0, o.1 ++ core_steps jobs rows amount before step, o.2, steps_after o.3 l.leads));
      shows = l.shows;
      count = l.count ∙ r.count;
    }

pub core_runs : RunsAreCoreRuns
core_runs jobs rows amount state small run =
    let r = core_run jobs rows amount state (length state.views) small run (omega arith) in
    (r.core, r.reached, r.shows)

-- ---- the end
idle_holds_nothing : (jobs rows : ℕ) (amount : ℕ → ℕ → ℤ) (v : View) → worker_count v ≡ 0 → rights_in jobs rows amount v ≡ []
idle_holds_nothing jobs rows amount (Owner numbers made unjoined) e = refl
idle_holds_nothing jobs rows amount (Worker numbers reached) e = absurd (omega (arith, e))
idle_holds_nothing jobs rows amount Spent e = refl

no_worker_at : (views : List View) (s : ℕ) → nat_sum_over worker_count views ≡ 0 → worker_count (get_or views s Spent) ≡ 0
no_worker_at [] s e = refl
no_worker_at (v ∷ vs) zero e = omega (arith, e)
no_worker_at (v ∷ vs) (suc s) e = no_worker_at vs s (omega (arith, e))

pub closes_at_end : ClosesAtTheEnd
closes_at_end jobs rows amount before seat after core small run s shows =
    let told = close_with_sums jobs rows amount before seat after small run s in
    let kept = step_keeps jobs rows amount before (close seat) after small (reached_kept jobs rows amount before small run) s in
    let at : get_elem? after.views seat ≡ some (Owner s.numbers s.made 0) = subst (λ (t : WordState). get_elem? t.views seat ≡ some (Owner s.numbers s.made 0))
    (sym s.same) s.owner in
    let no_worker = all_out jobs rows amount after.words after.views seat s.numbers s.made 0 kept at in (
      shows.bag ∙ unclaimed_none jobs (slice_index after.words 0) (let a = told.all_jobs in omega (arith, a)),
      (λ k d below. get_or_default core.passes k d [] below ∙ shows.passes k
          ∙ idle_holds_nothing jobs rows amount (get_or after.views k Spent) (no_worker_at after.views k no_worker)),
    )
