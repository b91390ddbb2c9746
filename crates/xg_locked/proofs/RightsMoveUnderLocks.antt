-- How rights are moved under the locks.
use Rattle.std.proofs.Common.{◌≡◌, ℕ, ◌+◌, ◌≤◌, ◌&&◌, Bool, true, false, cond, eqb, ltb, if◌then◌else◌, nat_lt, List, [], ◌∷◌, ◌++◌, length, drop, refl, sym}
use Rattle.std.proofs.Common.{ap, ◌∙◌, arith}
use Rattle.std.specs.Prelude.{◌<◌, All, Contains}
use Rattle.std.proofs.lemmas.Bool.Decides.{nat_tests}
use Rattle.std.proofs.lemmas.List.Sorted.{IsPermutation-refl, IsPermutation-to_front}
use Rattle.def_sums.proofs.Ranges.{All-range}
use Rattle.def_history.specs.History.{times, job_numbers}
use Rattle.def_history.specs.Core.{Right, rights_of, times_right, TakesJob, GivesRight}
use Rattle.def_history.proofs.Counts.{one_if, times_right-cons, times_right-rights_of, times_from_Contains}
use Rattle.def_history.proofs.Locks.{counts_tell_rights}
use Rattle.xg_locked.specs.declared.view.View.{View}
use Rattle.xg_locked.specs.Rights.{job_count_of, rights_for, rights_at, seen, stripes_of, once, whole_view, IsCutInTwo, IsLoaded}
use Rattle.xg_locked.proofs.Sums.{times_append, times_for, times_at}
use Rattle.xg_rowcore.proofs.Histories.{times-push}
use Rattle.xg_locked.specs.Locked.{without}

-- all rights go to the bag
pub all_is_cut : (number : ℕ)
    → IsCutInTwo (whole_view number) (seen [] 64 (stripes_of number + 65) number)
    (seen (rights_for (job_numbers (job_count_of number)) (stripes_of number)) 0 1 number)
all_is_cut number = record {
  live = omega arith;
  rights = λ j s. (let a = times_append j s [] (rights_for (job_numbers (job_count_of number)) (stripes_of number)) in sym a);
  tickets = refl;
  parts = omega arith;
  some_kept = omega arith;
  some_given = omega arith;
  numbers = (refl, refl, refl, refl);
}

-- a job's rights leave the bag
pub job_is_cut : (rest : List ℕ) (job number : ℕ)
    → IsCutInTwo (seen (rights_for (rest ++ job ∷ []) (stripes_of number) ++ []) 1 2 number) (seen (rights_for rest (stripes_of number)) 0 1 number)
    (seen (rights_of job (stripes_of number)) 1 1 number)
job_is_cut rest job number = record {
  live = omega arith;
  rights = λ j s.
      let n : ℕ = stripes_of number in
      let a = times_append j s (rights_for (rest ++ job ∷ []) n) [] in
      let b = times_for j s n (rest ++ job ∷ []) in
      let c = times_for j s n rest in
      let d = times_right-rights_of job n j s in
      let e = times-push j job rest in
      counted (ltb s n) (eqb job j) _ _ _ _ _ _ a b c d e;
  tickets = refl;
  parts = refl;
  some_kept = omega arith;
  some_given = omega arith;
  numbers = (refl, refl, refl, refl);
}
  where
    counted : (inside same : Bool) (all both left taken more less : ℕ)
        → all ≡ both + 0 → both ≡ (if inside then more else 0) → left ≡ (if inside then less else 0)
        → taken ≡ cond same (cond inside 1 0) 0 → more ≡ less + cond same 1 0 → left + taken ≡ all
    counted true true all both left taken more less a b c d e = omega arith
    counted true false all both left taken more less a b c d e = omega arith
    counted false true all both left taken more less a b c d e = omega arith
    counted false false all both left taken more less a b c d e = omega arith

-- one right of a list, and the others
pub times_without : (j s job stripe : ℕ) (rights : List Right) → 1 ≤ times_right job stripe rights
    → cond (eqb job j && eqb stripe s) 1 0 + times_right j s (without job stripe rights) ≡ times_right j s rights
times_without j s job stripe [] has = absurd (omega arith)
times_without j s job stripe (r ∷ rs) has = taken (times_without j s job stripe rs) (eqb r.job job && eqb r.stripe stripe) refl has
  where
    taken : (1 ≤ times_right job stripe rs
        → cond (eqb job j && eqb stripe s) 1 0 + times_right j s (without job stripe rs) ≡ times_right j s rs)
        → (b : Bool) → (eqb r.job job && eqb r.stripe stripe) ≡ b → 1 ≤ times_right job stripe (r ∷ rs)
        → cond (eqb job j && eqb stripe s) 1 0 + times_right j s (if b then rs else r ∷ without job stripe rs)
        ≡ times_right j s (r ∷ rs)
    taken later true is has =
        let a : r.job ≡ job = grind (arith, nat_tests) in
        let b : r.stripe ≡ stripe = grind (arith, nat_tests) in
        let c = times_right-cons j s r rs in
        grind (arith, nat_tests)
    taken later false is has =
        let none : one_if (eqb r.job job && eqb r.stripe stripe) ≡ 0 = rw is refl in
        let rest : 1 ≤ times_right job stripe rs = omega (arith, times_right-cons job stripe r rs, none, has) in
        omega (arith, later rest, times_right-cons j s r rs, times_right-cons j s r (without job stripe rs))

-- a right goes to the stripe
pub right_is_cut : (stripe job tickets number : ℕ) (order : List ℕ) (rights : List Right)
    → 1 ≤ times_right job stripe rights
    → IsCutInTwo (seen (rights_at stripe order ++ rights) tickets 2 number) (seen (rights_at stripe (order ++ job ∷ [])) 0 1 number)
    (seen (without job stripe rights) tickets 1 number)
right_is_cut stripe job tickets number order rights has = record {
  live = omega arith;
  rights =
      λ j s. counted (eqb stripe s) (eqb job j) _ _ _ _ _ _ _ (times_append j s (rights_at stripe order) rights) (times_at j s stripe order)
      (times_at j s stripe (order ++ job ∷ [])) (times-push j job order) (times_without j s job stripe rights has);
  tickets = omega arith;
  parts = refl;
  some_kept = omega arith;
  some_given = omega arith;
  numbers = (refl, refl, refl, refl);
}
  where
    counted : (here same : Bool) (all at pushed held left more less : ℕ)
        → all ≡ at + held → at ≡ (if here then less else 0) → pushed ≡ (if here then more else 0)
        → more ≡ less + cond same 1 0 → cond (same && here) 1 0 + left ≡ held → pushed + left ≡ all
    counted true true all at pushed held left more less a b c d e = omega arith
    counted true false all at pushed held left more less a b c d e = omega arith
    counted false true all at pushed held left more less a b c d e = omega arith
    counted false false all at pushed held left more less a b c d e = omega arith

pub rights_at_drop : (stripe : ℕ) (order : List ℕ) (rights : List Right)
    → drop (length order) (rights_at stripe order ++ rights) ≡ rights
rights_at_drop stripe [] rights = refl
rights_at_drop stripe (x ∷ xs) rights = rights_at_drop stripe xs rights

holds_right : (stripe job : ℕ) (order : List ℕ) → Contains order job
    → 1 ≤ times_right job stripe (rights_at stripe order)
holds_right stripe job order there =
    let a = times_at job stripe stripe order in
    let b = times_from_Contains job order there in
    let same : eqb stripe stripe ≡ true = grind (arith, nat_tests) in
    let c : times_right job stripe (rights_at stripe order) ≡ times job order = a ∙ ap (λ t. if t then times job order else 0) same in
    omega (arith, b, c)

-- a right is there at most once
pub once_at_most : (number job stripe : ℕ) → once number job stripe ≤ 1
unfolding once
once_at_most number job stripe = by_case (nat_lt job (job_count_of number) && nat_lt stripe (stripes_of number))
  where
    by_case : (b : Bool) → (if b then 1 else 0) ≤ 1
    by_case true = omega arith
    by_case false = omega arith

-- who holds the right knows that the job isn't in the order
pub job_is_new : (stripe job n tickets number : ℕ) (order : List ℕ) (rights : List Right)
    → 1 ≤ times_right job stripe rights
    → IsLoaded n (seen (rights_at stripe order ++ rights) tickets 2 number) → Contains order job → ⊥
job_is_new stripe job n tickets number order rights has loaded there =
    let a = loaded.once_at_most job stripe in
    let b = times_append job stripe (rights_at stripe order) rights in
    let c = once_at_most n job stripe in
    let d = holds_right stripe job order there in
    omega arith

-- what a stripe's view is while a pass's view is joined into it
pub record Opened (stripe : ℕ) (order : List ℕ) (p w : View) : Type 0 where
  pub plain : w ≡ seen (rights_at stripe order ++ p.rights) p.tickets 2 p.number
  pub theirs : drop (length order) w.rights ≡ p.rights
  pub view : w ≡ seen (rights_at stripe order ++ drop (length order) w.rights) w.tickets 2 w.number

-- a pass's view that is joined into a stripe's adds its rights behind those of the order, its tickets and its part
pub opened : (stripe : ℕ) (order : List ℕ) (v p w : View) → v ≡ seen (rights_at stripe order) 0 1 v.number
    → p ≡ seen p.rights p.tickets 1 p.number
    → v.number ≡ p.number → w ≡ seen (v.rights ++ p.rights) (v.tickets + p.tickets) (v.parts + p.parts) v.number
    → Opened stripe order p w
opened stripe order v p w v_is p_is numbers w_is = record { plain = plain; theirs = theirs; view = view }
  where
    less : 0 + p.tickets ≡ p.tickets
    less = omega arith

    plain : w ≡ seen (rights_at stripe order ++ p.rights) p.tickets 2 p.number
    plain =
        w_is ∙ (λ i. seen ((v_is i).rights ++ p.rights) ((v_is i).tickets + p.tickets) ((v_is i).parts + (p_is i).parts) (numbers i))
        ∙ (λ i. seen (rights_at stripe order ++ p.rights) (less i) 2 p.number)

    theirs : drop (length order) w.rights ≡ p.rights
    theirs = ap (λ (u : View). drop (length order) u.rights) plain ∙ rights_at_drop stripe order p.rights

    view : w ≡ seen (rights_at stripe order ++ drop (length order) w.rights) w.tickets 2 w.number
    view =
        plain ∙ (λ i. seen (rights_at stripe order ++ sym theirs i) (sym (ap (λ (u : View). u.tickets) plain) i) 2 (sym (ap (λ (u : View). u.number) plain) i))

-- what is done under the locks, as steps of the core
pub takes_job : (stripes job : ℕ) (bag after : List ℕ) (held now : List Right) → bag ≡ after ++ job ∷ [] → held ≡ []
    → now ≡ rights_of job stripes
    → TakesJob stripes bag held job after now
takes_job stripes job bag after held now b h n = rw (b, h, n) (record {
  held_none = refl;
  leaves_bag = IsPermutation-to_front after job;
  gets_rights = IsPermutation-refl (rights_of job stripes);
})

-- every number of a job is one
pub named_below : (jobs : ℕ) → All (λ job. job < jobs) (job_numbers jobs)
named_below jobs = All-range (λ job. job < jobs) 0 jobs (λ s low high. omega arith)

-- to take a held right away and to put its job behind the stripe's history is to give the right up
pub gives_right : (stripe job : ℕ) (history after : List ℕ) (held now : List Right) → 1 ≤ times_right job stripe held
    → after ≡ history ++ job ∷ [] → now ≡ without job stripe held
    → GivesRight stripe history held job after now
gives_right stripe job history after held now has a n = record {
  gives_right = rw n ((counts_tell_rights.same held (record { job = job; stripe = stripe } ∷ without job stripe held)).1
      (λ j s. sym (times_without j s job stripe held has) ∙ sym (times_right-cons j s (record { job = job; stripe = stripe }) (without job stripe held))));
  joins_history = a;
}
