-- Sums over numbers in a row, `range_with_len first count`.
use Rattle.std.proofs.Common.{◌≡◌, ℕ, zero, suc, ◌+◌, ◌-◌, ◌≤◌, ◌<◌, Bool, true, false, cond, eqb, List, [], ◌∷◌, ◌++◌, map, length, get_or, slice_index, ℤ}
use Rattle.std.proofs.Common.{pos, ◌+ℤ◌, All, arith, ap, sym, ◌∙◌, refl, eqb-true, ne_eqb, subst, ⊎_elim, filter}
use Rattle.std.proofs.lemmas.Bool.{eqb-false}
use Rattle.std.proofs.lemmas.Bool.Decides.{eqb_tells}
use Rattle.std.proofs.lemmas.List.{get_or-append-add}
use Rattle.std.proofs.lemmas.List.Elements.{All-cons, All-nil}
use Rattle.std.proofs.lemmas.List.FromFn.{length-range_with_len, get_or-range_with_len}
use Rattle.std.specs.List.{range_with_len}
use Rattle.def_sums.specs.Sum.{sum_over, nat_sum_over}
use Rattle.def_sums.proofs.RingLaws.{zero-+ℤ, +ℤ-zero}
use Rattle.def_sums.proofs.SumLaws.{nat_sum_over-same, nat_sum_over-add, nat_sum_over-bounded}

-- a row of numbers is its front, followed by the row that goes on from there
pub range-append : (a m n : ℕ) → range_with_len a (m + n) ≡ range_with_len a m ++ range_with_len (a + m) n
range-append a zero n =
    let here : 0 + n ≡ n = omega arith in
    let there : a ≡ a + 0 = omega arith in
    ap (λ k. range_with_len a k) here ∙ ap (λ k. range_with_len k n) there
range-append a (suc m) n =
    let one_more : suc m + n ≡ suc (m + n) = omega arith in
    let later : a + 1 + m ≡ a + suc m = omega arith in
    ap (λ k. range_with_len a k) one_more
    ∙ ap (λ xs. a ∷ xs) (range-append (a + 1) m n ∙ ap (λ k. range_with_len (a + 1) m ++ range_with_len k n) later)

-- what holds of each number of a row, both ways
pub All-range : (P : ℕ → Type 0) (a n : ℕ) → ((s : ℕ) → a ≤ s → s < a + n → P s) → All P (range_with_len a n)
All-range P a zero h = All-nil P
All-range P a (suc n) h =
    All-cons P a (range_with_len (a + 1) n) (h a (omega arith) (omega arith)) (All-range P (a + 1) n (λ s low high. h s (omega arith) (omega arith)))

-- what holds of each element of a row holds of each number from its first to its last
pub range-All : (P : ℕ → Type 0) (a n : ℕ) → All P (range_with_len a n) → (s : ℕ) → a ≤ s → s < a + n → P s
range-All P a n h s low high =
    subst P (get_or-range_with_len a n (s - a) 0 (omega arith) ∙ omega arith) (h (s - a) 0 (omega (arith, length-range_with_len a n)))

-- a sum in which one number alone counts
pub pick_out : (f : ℕ → ℤ) (k a n : ℕ) → k < a
    → sum_over (λ s. cond (eqb k s) (f s) (pos 0)) (range_with_len a n) ≡ pos 0
pick_out f k a zero h = refl
pick_out f k a (suc n) h =
    ap (λ b. cond b (f a) (pos 0) +ℤ sum_over (λ s. cond (eqb k s) (f s) (pos 0)) (range_with_len (a + 1) n)) (ne_eqb k a (λ e. omega arith))
    ∙ zero-+ℤ (sum_over (λ s. cond (eqb k s) (f s) (pos 0)) (range_with_len (a + 1) n))
    ∙ pick_out f k (a + 1) n (omega arith)

-- a row that ends before k gets nothing of what counts at k alone
pub pick_past : (f : ℕ → ℤ) (k a n : ℕ) → a + n ≤ k
    → sum_over (λ s. cond (eqb k s) (f s) (pos 0)) (range_with_len a n) ≡ pos 0
pick_past f k a zero h = refl
pick_past f k a (suc n) h =
    ap (λ b. cond b (f a) (pos 0) +ℤ sum_over (λ s. cond (eqb k s) (f s) (pos 0)) (range_with_len (a + 1) n)) (ne_eqb k a (λ e. omega arith))
    ∙ zero-+ℤ (sum_over (λ s. cond (eqb k s) (f s) (pos 0)) (range_with_len (a + 1) n))
    ∙ pick_past f k (a + 1) n (omega arith)

pick_later : (f : ℕ → ℤ) (k a n : ℕ) → (b : Bool) → eqb k a ≡ b → a ≤ k → k < a + suc n
    → ((a + 1 ≤ k) → (k < a + 1 + n) → sum_over (λ s. cond (eqb k s) (f s) (pos 0)) (range_with_len (a + 1) n) ≡ f k)
    → cond b (f a) (pos 0) +ℤ sum_over (λ s. cond (eqb k s) (f s) (pos 0)) (range_with_len (a + 1) n) ≡ f k
pick_later f k a n true e low high rest =
    let same : k ≡ a = eqb-true k a e in
    ap (λ z. f a +ℤ z) (pick_out f k (a + 1) n (omega arith)) ∙ +ℤ-zero (f a) ∙ ap f (sym same)
pick_later f k a n false e low high rest =
    let other : ¬ (k ≡ a) = eqb-false k a e in
    let after : a + 1 ≤ k = omega arith in
    zero-+ℤ (sum_over (λ s. cond (eqb k s) (f s) (pos 0)) (range_with_len (a + 1) n)) ∙ rest after (omega arith)

-- a row that has k gets what counts at k alone
pub pick_in : (f : ℕ → ℤ) (k a n : ℕ) → a ≤ k → k < a + n
    → sum_over (λ s. cond (eqb k s) (f s) (pos 0)) (range_with_len a n) ≡ f k
pick_in f k a zero low high = absurd (omega arith)
pick_in f k a (suc n) low high = pick_later f k a n (eqb k a) refl low high (λ l h. pick_in f k (a + 1) n l h)

-- a sum over the places of a list is the sum of its elements
pub nat_sum_over-read : (f : ℕ → ℕ) (a : ℕ) (ys : List ℕ) → ((i : ℕ) → i < length ys → f (a + i) ≡ get_or ys i 0)
    → nat_sum_over f (range_with_len a (length ys)) ≡ nat_sum_over (λ y. y) ys
nat_sum_over-read f a [] h = refl
nat_sum_over-read f a (y ∷ ys) h =
    let here : a ≡ a + 0 = omega arith in
    let later : (i : ℕ) → i < length ys → f (a + 1 + i) ≡ get_or ys i 0 = λ i low. ap f (omega arith) ∙ h (suc i) (omega arith) in
    ap (λ z. z + nat_sum_over f (range_with_len (a + 1) (length ys))) (ap f here ∙ h 0 (omega arith))
    ∙ ap (λ z. y + z) (nat_sum_over-read f (a + 1) ys later)

-- a sum over the places behind a front is the sum of the elements there
pub nat_sum_over-places : (xs ys : List ℕ) (a : ℕ) → length xs ≡ a
    → nat_sum_over (λ s. slice_index (xs ++ ys) s) (range_with_len a (length ys)) ≡ nat_sum_over (λ y. y) ys
nat_sum_over-places xs ys a e =
    nat_sum_over-read (λ s. slice_index (xs ++ ys) s) a ys (λ i low. ap (λ k. get_or (xs ++ ys) (k + i) 0) (sym e) ∙ get_or-append-add xs ys i 0)

-- one number of a row is at most the sum of all
pub at_most_sum : (f : ℕ → ℕ) (a n k : ℕ) → a ≤ k → k < a + n → f k ≤ nat_sum_over f (range_with_len a n)
at_most_sum f a zero k low high = absurd (omega arith)
at_most_sum f a (suc n) k low high =
    ⊎_elim
    (λ yes. let same : f k ≡ f a = ap f yes.1 in omega arith)
    (λ no. let rest = at_most_sum f (a + 1) n k (omega (arith, no.1)) (omega arith) in omega arith)
    (eqb_tells k a)

nat_pick_out : (v k a n : ℕ) → k < a → nat_sum_over (λ s. cond (eqb k s) v 0) (range_with_len a n) ≡ 0
nat_pick_out v k a zero h = refl
nat_pick_out v k a (suc n) h =
    ap (λ b. cond b v 0 + nat_sum_over (λ s. cond (eqb k s) v 0) (range_with_len (a + 1) n)) (ne_eqb k a (λ e. omega arith))
    ∙ omega (arith, nat_pick_out v k (a + 1) n (omega arith))

-- what counts at one number alone counts once at most
pub nat_pick : (v k a n : ℕ) → nat_sum_over (λ s. cond (eqb k s) v 0) (range_with_len a n) ≤ v
nat_pick v k a zero = omega arith
nat_pick v k a (suc n) =
    ⊎_elim
    (λ yes. subst (λ b. cond b v 0 + nat_sum_over (λ s. cond (eqb k s) v 0) (range_with_len (a + 1) n) ≤ v) (sym yes.0)
    (omega (arith, nat_pick_out v k (a + 1) n (omega (arith, yes.1)))))
    (λ no. subst (λ b. cond b v 0 + nat_sum_over (λ s. cond (eqb k s) v 0) (range_with_len (a + 1) n) ≤ v) (sym no.0) (omega (arith, nat_pick v k (a + 1) n)))
    (eqb_tells k a)

kept_nat : {A : Type 0} (f : A → ℕ) (b : Bool) (x : A) (xs : List A)
    → nat_sum_over f (cond b (x ∷ xs) xs) ≡ cond b (f x) 0 + nat_sum_over f xs
kept_nat f true x xs = refl
kept_nat f false x xs = omega arith

-- what is gathered at the numbers of a row is at most all that there is
pub nat_gathered : {A : Type 0} (key : A → ℕ) (v : A → ℕ) (a n : ℕ) (zs : List A)
    → nat_sum_over (λ s. nat_sum_over v (filter (λ z. eqb (key z) s) zs)) (range_with_len a n) ≤ nat_sum_over v zs
nat_gathered key v a n [] = omega (arith, nat_sum_over-bounded (λ s. 0) 0 (range_with_len a n) (λ k d low. omega arith))
nat_gathered key v a n (z ∷ zs) =
    omega (
      arith,
      nat_sum_over-same (λ s. nat_sum_over v (filter (λ z. eqb (key z) s) (z ∷ zs)))
          (λ s. cond (eqb (key z) s) (v z) 0 + nat_sum_over v (filter (λ z. eqb (key z) s) zs)) (range_with_len a n)
          (λ k d low. kept_nat v (eqb (key z) (get_or (range_with_len a n) k d)) z (filter (λ z. eqb (key z) (get_or (range_with_len a n) k d)) zs)),
      nat_sum_over-add (λ s. cond (eqb (key z) s) (v z) 0) (λ s. nat_sum_over v (filter (λ z. eqb (key z) s) zs)) (range_with_len a n),
      nat_pick (v z) (key z) a n,
      nat_gathered key v a n zs,
    )

-- functions that agree at each number of a row
pub map-range_same : {A : Type 0} (f g : ℕ → A) (a n : ℕ) → ((s : ℕ) → a ≤ s → s < a + n → f s ≡ g s)
    → map f (range_with_len a n) ≡ map g (range_with_len a n)
map-range_same f g a zero same = refl
map-range_same f g a (suc n) same =
    ap (λ x. x ∷ map f (range_with_len (a + 1) n)) (same a (omega arith) (omega arith))
    ∙ ap (λ xs. g a ∷ xs) (map-range_same f g (a + 1) n (λ s low high. same s (omega arith) (omega arith)))
