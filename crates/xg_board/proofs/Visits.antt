-- The stripes that a worker visits.
use Rattle.std.proofs.Common.{◌≡◌, ◌≢◌, ℕ, ◌+◌, ◌-◌, ◌<◌, ◌≤◌, ◌==◌, ◌&&◌, not, cond, eqb, Bool, true, false, if◌then◌else◌, nat_lt, List, [], ◌∷◌, refl, sym}
use Rattle.std.proofs.Common.{ap, ◌∙◌, arith}
use Rattle.std.specs.Prelude.{IsPermutation}
use Rattle.std.proofs.lemmas.Bool.Decides.{nat_tests}
use Rattle.def_history.specs.Core.{Right, rights_of, times_right}
use Rattle.def_history.proofs.Counts.{times_right-cons, same_right}
use Rattle.def_history.proofs.Locks.{counts_tell_rights}
use Rattle.xg_locked.specs.Locked.{without}
use Rattle.xg_locked.proofs.RightsMoveUnderLocks.{times_without}
use Rattle.xg_board.specs.Visits.{steps_to, is_left, HoldsLeft}

steps_below : (n start s : ℕ) → start < n → s < n → steps_to n start s < n
steps_below n start s a b = by_case (nat_lt s start) refl
  where
    by_case : (t : Bool) → nat_lt s start ≡ t → (if t then s + (n - start) else s - start) < n
    by_case true e = let lt : s < start = grind (arith, nat_tests) in omega arith
    by_case false e = omega arith

same_steps : (n start s k : ℕ) → start < n → s < n → k < n → steps_to n start s ≡ steps_to n start k → s ≡ k
same_steps n start s k a b c e = grind (arith, nat_tests)

at_left : (n start i k : ℕ) → k < n → steps_to n start k ≡ i → is_left n start i k ≡ true
at_left n start i k below at = let e : steps_to n start k ≡ i = at in grind (arith, nat_tests)

not_left : (n start i k : ℕ) → steps_to n start k ≡ i → is_left n start (i + 1) k ≡ false
not_left n start i k at = let e : steps_to n start k ≡ i = at in grind (arith, nat_tests)

others_left : (n start i s d : ℕ) → (s < n → d ≢ i)
    → (nat_lt s n && not (nat_lt d i)) ≡ (nat_lt s n && not (nat_lt d (i + 1)))
others_left n start i s d apart = grind (arith, nat_tests)

-- before the first visit all rights of the job are left
pub all_left : (job n start : ℕ) (rights : List Right) → IsPermutation (rights_of job n) rights
    → HoldsLeft job n start 0 rights
all_left job n start rights same j s =
    sym ((counts_tell_rights.same (rights_of job n) rights).0 same j s) ∙ counts_tell_rights.of_a_job job n j s
    ∙ ap (λ t. if (job == j) && t then 1 else 0) (from_start s)
  where
    from_start : (s : ℕ) → nat_lt s n ≡ is_left n start 0 s
    from_start s = let none : nat_lt (steps_to n start s) 0 ≡ false = grind (arith, nat_tests) in grind (arith, nat_tests)

-- the next stripe's right is there
pub holds_next : (job n start i k : ℕ) (rights : List Right) → start < n → k < n → steps_to n start k ≡ i
    → HoldsLeft job n start i rights
    → 1 ≤ times_right job k rights
holds_next job n start i k rights a b at held =
    let h = held job k in
    let l = at_left n start i k b at in
    let same : (job == job) ≡ true = grind (arith, nat_tests) in
    let e : times_right job k rights ≡ 1 = h ∙ ap (λ t. if t && is_left n start i k then 1 else 0) same ∙ ap (λ t. if t then 1 else 0) l in
    omega arith

moved : (job n start i k j s : ℕ) → start < n → k < n → steps_to n start k ≡ i → (x : Bool) → eqb job j ≡ x → (y : Bool)
    → eqb k s ≡ y
    → cond (eqb job j && eqb k s) 1 0 + (if (job == j) && is_left n start (i + 1) s then 1 else 0)
    ≡ (if (job == j) && is_left n start i s then 1 else 0)
moved job n start i k j s a b at false ex y ey = rw ex (omega arith)
moved job n start i k j s a b at true ex true ey =
    let is : k ≡ s = grind (arith, nat_tests) in
    let l : is_left n start i s ≡ true = ap (is_left n start i) (sym is) ∙ at_left n start i k b at in
    let m : is_left n start (i + 1) s ≡ false = ap (is_left n start (i + 1)) (sym is) ∙ not_left n start i k at in
    rw (ex, ey, l, m) (omega arith)
moved job n start i k j s a b at true ex false ey =
    let other : s < n → steps_to n start s ≢ i = λ below e. absurd (let is = same_steps n start s k a below b (e ∙ sym at) in grind (arith, nat_tests)) in
    let o : is_left n start i s ≡ is_left n start (i + 1) s = others_left n start i s (steps_to n start s) other in
    rw (ex, ey, o) (omega arith)

-- a visit gives up one right
pub left_step : (job n start i k : ℕ) (rights : List Right) → start < n → k < n → steps_to n start k ≡ i
    → HoldsLeft job n start i rights
    → HoldsLeft job n start (i + 1) (without job k rights)
left_step job n start i k rights a b at held j s =
    let w = times_without j s job k rights (holds_next job n start i k rights a b at held) in
    let h = held j s in
    let c = moved job n start i k j s a b at (eqb job j) refl (eqb k s) refl in
    omega arith

nothing : (rights : List Right) → ((j s : ℕ) → times_right j s rights ≡ 0) → rights ≡ []
nothing [] none = refl
nothing (r ∷ rs) none = absurd (omega (arith, none r.job r.stripe, times_right-cons r.job r.stripe r rs, same_right r.job r.stripe))

-- after all visits no right is left
pub none_left : (job n start i : ℕ) (rights : List Right) → start < n → n ≤ i → HoldsLeft job n start i rights
    → rights ≡ []
none_left job n start i rights a all held = nothing rights none
  where
    none : (j s : ℕ) → times_right j s rights ≡ 0
    none j s = held j s ∙ by_case (eqb job j) (nat_lt s n) refl
      where
        by_case : (x y : Bool) → nat_lt s n ≡ y
            → ◌≡◌ {A = ℕ} (if x && (nat_lt s n && not (nat_lt (steps_to n start s) i)) then 1 else 0) 0
        by_case false y e = refl
        by_case true true e = let lt : s < n = grind (arith, nat_tests) in let d = steps_below n start s a lt in grind (arith, nat_tests)
        by_case true false e = grind (arith, nat_tests)
