-- Sums over views, and how often a right is in a list of rights.
use Rattle.std.proofs.Common.{◌≡◌, ℕ, zero, suc, ◌+◌, ◌≤◌, ◌&&◌, cond, eqb, List, [], ◌∷◌, ◌++◌, set, if◌then◌else◌, nat_lt, refl, sym, ap, arith}
use mathlib.Core.Option.{some, some-injective, some-ne-none}
use lib.ListN.{get_elem?}
use Rattle.std.proofs.lemmas.Bool.Decides.{nat_tests}
use Rattle.std.proofs.lemmas.List.Sums.{sum_by-append}
use Rattle.def_history.specs.History.{times, job_numbers}
use Rattle.def_history.specs.Core.{Right, rights_of, times_right}
use Rattle.def_history.proofs.Counts.{times-cons, times-job_numbers, times_right-cons, times_right-rights_of}
use Rattle.xg_locked.specs.declared.view.View.{View}
use Rattle.xg_locked.specs.Rights.{rights_for, rights_at, total_of}

-- a right is in two lists as often as in both together
pub times_append : (job stripe : ℕ) (xs ys : List Right)
    → times_right job stripe (xs ++ ys) ≡ times_right job stripe xs + times_right job stripe ys
times_append job stripe xs ys = sum_by-append (λ (right : Right). cond (eqb right.job job && eqb right.stripe stripe) 1 0) xs ys

-- jobs' rights for all stripes have a right as often as the jobs have its job
pub times_for : (job stripe stripes : ℕ) (jobs : List ℕ)
    → times_right job stripe (rights_for jobs stripes) ≡ (if nat_lt stripe stripes then times job jobs else 0)
times_for job stripe stripes [] = grind (arith, nat_tests)
times_for job stripe stripes (x ∷ xs) =
    let rest = times_for job stripe stripes xs in
    let here = times_right-rights_of x stripes job stripe in
    let both = times_append job stripe (rights_of x stripes) (rights_for xs stripes) in
    let jobs = times-cons job x xs in
    grind (arith, nat_tests)

-- jobs' rights for one stripe as well
pub times_at : (job stripe of : ℕ) (jobs : List ℕ)
    → times_right job stripe (rights_at of jobs) ≡ (if eqb of stripe then times job jobs else 0)
times_at job stripe of [] = grind (arith, nat_tests)
times_at job stripe of (x ∷ xs) =
    let rest = times_at job stripe of xs in
    let here = times_right-cons job stripe (record { job = x; stripe = of }) (rights_at of xs) in
    let jobs = times-cons job x xs in
    grind (arith, nat_tests)

-- all jobs' rights have each right once
pub all_once : (job stripe jobs stripes : ℕ)
    → times_right job stripe (rights_for (job_numbers jobs) stripes)
    ≡ (if nat_lt job jobs && nat_lt stripe stripes then 1 else 0)
all_once job stripe jobs stripes =
    let for = times_for job stripe stripes (job_numbers jobs) in
    let numbers = times-job_numbers jobs job in
    grind (arith, nat_tests)

-- the total after a change of one view
pub total_set : (f : View → ℕ) (views : List View) (seat : ℕ) (v w : View)
    → get_elem? views seat ≡ some v → total_of f (set views seat w) + f v ≡ total_of f views + f w
total_set f [] seat v w e = absurd (some-ne-none v (sym e))
total_set f (x ∷ xs) zero v w e = let same : f x ≡ f v = ap f (some-injective x v e) in omega arith
total_set f (x ∷ xs) (suc seat) v w e = omega (arith, total_set f xs seat v w e)

-- the total with one view more
pub total_snoc : (f : View → ℕ) (views : List View) (v : View) → total_of f (views ++ v ∷ []) ≡ total_of f views + f v
total_snoc f [] v = omega arith
total_snoc f (x ∷ xs) v = omega (arith, total_snoc f xs v)

-- a view counts for no more than all
pub total_has : (f : View → ℕ) (views : List View) (seat : ℕ) (v : View) → get_elem? views seat ≡ some v
    → f v ≤ total_of f views
total_has f [] seat v e = absurd (some-ne-none v (sym e))
total_has f (x ∷ xs) zero v e = let same : f x ≡ f v = ap f (some-injective x v e) in omega arith
total_has f (x ∷ xs) (suc seat) v e = omega (arith, total_has f xs seat v e)

-- where no view has a part, and a view with no part counts for nothing, nothing is counted
total_none : (f g : View → ℕ) (views : List View)
    → ((seat : ℕ) (u : View) → get_elem? views seat ≡ some u → g u ≡ 0 → f u ≡ 0) → total_of g views ≡ 0
    → total_of f views ≡ 0
total_none f g [] idle none = refl
total_none f g (x ∷ xs) idle none =
    let here : f x ≡ 0 = idle 0 x refl (omega arith) in
    let there : total_of f xs ≡ 0 = total_none f g xs (λ seat u e. idle (suc seat) u e) (omega arith) in
    omega arith

-- where one view has all parts, it counts for all
pub total_only : (f g : View → ℕ) (views : List View) (seat : ℕ) (v : View) → get_elem? views seat ≡ some v
    → ((seat : ℕ) (u : View) → get_elem? views seat ≡ some u → g u ≡ 0 → f u ≡ 0) → g v ≡ total_of g views
    → total_of f views ≡ f v
total_only f g [] seat v e idle all = absurd (some-ne-none v (sym e))
total_only f g (x ∷ xs) zero v e idle all =
    let same : f x ≡ f v = ap f (some-injective x v e) in
    let gsame : g x ≡ g v = ap g (some-injective x v e) in
    let none : total_of f xs ≡ 0 = total_none f g xs (λ seat u e. idle (suc seat) u e) (omega arith) in
    omega arith
total_only f g (x ∷ xs) (suc seat) v e idle all =
    let at_most : g v ≤ total_of g xs = total_has g xs seat v e in
    let none : f x ≡ 0 = idle 0 x refl (omega arith) in
    let rest : total_of f xs ≡ f v = total_only f g xs seat v e (λ seat u e. idle (suc seat) u e) (omega arith) in
    omega arith
