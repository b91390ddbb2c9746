-- Sums over lists of views.
use Rattle.std.proofs.Common.{◌≡◌, ◌≢◌, ℕ, zero, suc, ◌+◌, ◌≤◌, List, [], ◌∷◌, ◌++◌, set, refl, sym, ap, arith}
use mathlib.Core.Option.{some, some-injective, some-ne-none}
use lib.ListN.{get_elem?}
use Rattle.def_sums.specs.Sum.{nat_sum_over}

-- a change of one element leaves the others
pub elem_set_other : {A : Type 0} (xs : List A) (i j : ℕ) (x : A) → j ≢ i → get_elem? (set xs i x) j ≡ get_elem? xs j
elem_set_other [] i j x apart = refl
elem_set_other (z ∷ zs) zero zero x apart = absurd (apart refl)
elem_set_other (z ∷ zs) zero (suc j) x apart = refl
elem_set_other (z ∷ zs) (suc i) zero x apart = refl
elem_set_other (z ∷ zs) (suc i) (suc j) x apart = elem_set_other zs i j x (λ e. apart (ap suc e))

-- the sum after a change of one element
pub sum_set : {A : Type 0} (f : A → ℕ) (xs : List A) (i : ℕ) (x y : A) → get_elem? xs i ≡ some x → nat_sum_over f (set xs i y) + f x ≡ nat_sum_over f xs + f y
sum_set f [] i x y e = absurd (some-ne-none x (sym e))
sum_set f (z ∷ zs) zero x y e = let same : f z ≡ f x = ap f (some-injective z x e) in omega arith
sum_set f (z ∷ zs) (suc i) x y e = omega (arith, sum_set f zs i x y e)

pub sum_snoc : {A : Type 0} (f : A → ℕ) (xs : List A) (x : A) → nat_sum_over f (xs ++ x ∷ []) ≡ nat_sum_over f xs + f x
sum_snoc f [] x = omega arith
sum_snoc f (z ∷ zs) x = omega (arith, sum_snoc f zs x)

-- an element counts for no more than all
pub sum_has : {A : Type 0} (f : A → ℕ) (xs : List A) (i : ℕ) (x : A) → get_elem? xs i ≡ some x → f x ≤ nat_sum_over f xs
sum_has f [] i x e = absurd (some-ne-none x (sym e))
sum_has f (z ∷ zs) zero x e = let same : f z ≡ f x = ap f (some-injective z x e) in omega arith
sum_has f (z ∷ zs) (suc i) x e = omega (arith, sum_has f zs i x e)

-- where all elements but one count nothing for g, and then nothing for f, the one counts for all
sum_none : {A : Type 0} (f g : A → ℕ) (xs : List A) → ((x : A) → g x ≡ 0 → f x ≡ 0) → nat_sum_over g xs ≡ 0 → nat_sum_over f xs ≡ 0
sum_none f g [] idle none = refl
sum_none f g (x ∷ xs) idle none =
    let here : f x ≡ 0 = idle x (omega arith) in
    let there : nat_sum_over f xs ≡ 0 = sum_none f g xs idle (omega arith) in
    omega arith

pub sum_only : {A : Type 0} (f g : A → ℕ) (xs : List A) (i : ℕ) (x : A) → get_elem? xs i ≡ some x → ((x : A) → g x ≡ 0 → f x ≡ 0) → g x ≡ nat_sum_over g xs
    → nat_sum_over f xs ≡ f x
sum_only f g [] i x e idle all = absurd (some-ne-none x (sym e))
sum_only f g (z ∷ zs) zero x e idle all =
    let same : f z ≡ f x = ap f (some-injective z x e) in
    let gsame : g z ≡ g x = ap g (some-injective z x e) in
    let none : nat_sum_over f zs ≡ 0 = sum_none f g zs idle (omega arith) in
    omega arith
sum_only f g (z ∷ zs) (suc i) x e idle all =
    let at_most : g x ≤ nat_sum_over g zs = sum_has g zs i x e in
    let none : f z ≡ 0 = idle z (omega arith) in
    let rest : nat_sum_over f zs ≡ f x = sum_only f g zs i x e idle (omega arith) in
    omega arith
