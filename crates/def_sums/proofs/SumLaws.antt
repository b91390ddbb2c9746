-- Sums over lists of any elements.
use Rattle.std.proofs.Common.{◌≡◌, ℕ, ◌+◌, ◌*◌, ◌≤◌, Bool, true, false, cond, List, [], ◌∷◌, ◌++◌, map, length, ℤ, pos, ◌+ℤ◌, ◌*ℤ◌, ◌≤ℤ◌, unsigned_abs, All}
use Rattle.std.proofs.Common.{sum, filter, fold, arith, ap, sym, ◌∙◌, refl}
use Rattle.std.proofs.lemmas.Int.{ints, unsigned_abs-mul}
use Rattle.std.proofs.lemmas.List.Elements.{All-head, All-tail}
use Rattle.def_sums.specs.Sum.{sum_over, nat_sum_over}
use Rattle.def_sums.specs.Laws.{SizeLaws, SumLaws}
use Rattle.def_sums.proofs.RingLaws.{+ℤ_assoc, zero-+ℤ, *ℤ-zero, *ℤ-+ℤ, +ℤ-mono, ≤ℤ_refl, unsigned_abs-+ℤ}

-- a sum over a list is that over its front and that over the rest, added
pub sum_over-append : {A : Type 0} (f : A → ℤ) (xs ys : List A) → sum_over f (xs ++ ys) ≡ sum_over f xs +ℤ sum_over f ys
sum_over-append f [] ys = sym (zero-+ℤ (sum_over f ys))
sum_over-append f (x ∷ xs) ys = ap (λ z. f x +ℤ z) (sum_over-append f xs ys) ∙ sym (+ℤ_assoc (f x) (sum_over f xs) (sum_over f ys))

pub sum_over-zero : {A : Type 0} (xs : List A) → sum_over (λ x. pos 0) xs ≡ pos 0
sum_over-zero [] = refl
sum_over-zero (x ∷ xs) = zero-+ℤ (sum_over (λ x. pos 0) xs) ∙ sum_over-zero xs

-- a sum whose terms are sums of two is two sums, added
pub sum_over-+ℤ : {A : Type 0} (f g : A → ℤ) (xs : List A)
    → sum_over (λ x. f x +ℤ g x) xs ≡ sum_over f xs +ℤ sum_over g xs
sum_over-+ℤ f g [] = refl
sum_over-+ℤ f g (x ∷ xs) = omega (arith, ints, sum_over-+ℤ f g xs)

-- a factor that all terms have can be taken out of a sum
pub sum_over-factor : {A : Type 0} (c : ℤ) (f : A → ℤ) (xs : List A) → sum_over (λ x. c *ℤ f x) xs ≡ c *ℤ sum_over f xs
sum_over-factor c f [] = sym (*ℤ-zero c)
sum_over-factor c f (x ∷ xs) = ap (λ z. c *ℤ f x +ℤ z) (sum_over-factor c f xs) ∙ sym (*ℤ-+ℤ c (f x) (sum_over f xs))

-- a sum of sums can be taken in either order
pub sum_over-exchange : {A B : Type 0} (f : A → B → ℤ) (xs : List A) (ys : List B)
    → sum_over (λ x. sum_over (λ y. f x y) ys) xs ≡ sum_over (λ y. sum_over (λ x. f x y) xs) ys
sum_over-exchange f [] ys = sym (sum_over-zero ys)
sum_over-exchange f (x ∷ xs) ys =
    ap (λ z. sum_over (λ y. f x y) ys +ℤ z) (sum_over-exchange f xs ys)
    ∙ sym (sum_over-+ℤ (λ y. f x y) (λ y. sum_over (λ x. f x y) xs) ys)

-- functions that agree at each element
pub sum_over-same : {A : Type 0} (f g : A → ℤ) (xs : List A) → All (λ x. f x ≡ g x) xs → sum_over f xs ≡ sum_over g xs
sum_over-same f g [] h = refl
sum_over-same f g (x ∷ xs) h =
    ap (λ z. z +ℤ sum_over f xs) (All-head (λ x. f x ≡ g x) x xs h)
    ∙ ap (λ z. g x +ℤ z) (sum_over-same f g xs (All-tail (λ x. f x ≡ g x) x xs h))

-- functions that agree everywhere have the same sum
pub sum_over-ext : {A : Type 0} (f g : A → ℤ) (xs : List A) → ((x : A) → f x ≡ g x) → sum_over f xs ≡ sum_over g xs
sum_over-ext f g [] h = refl
sum_over-ext f g (x ∷ xs) h = ap (λ z. z +ℤ sum_over f xs) (h x) ∙ ap (λ z. g x +ℤ z) (sum_over-ext f g xs h)

-- a relation between numbers that sums keep
pub sum_over-related : {A : Type 0} (R : ℤ → ℤ → Type 0) → R (pos 0) (pos 0)
    → ((a b c d : ℤ) → R a b → R c d → R (a +ℤ c) (b +ℤ d)) → (f g : A → ℤ) (xs : List A) → All (λ x. R (f x) (g x)) xs
    → R (sum_over f xs) (sum_over g xs)
sum_over-related R none add f g [] h = none
sum_over-related R none add f g (x ∷ xs) h =
    add (f x) (g x) (sum_over f xs) (sum_over g xs) (All-head (λ x. R (f x) (g x)) x xs h)
    (sum_over-related R none add f g xs (All-tail (λ x. R (f x) (g x)) x xs h))

-- where each term is at most another, the sum of the first is at most that of the others
pub sum_over-mono : {A : Type 0} (f g : A → ℤ) (xs : List A) → All (λ x. f x ≤ℤ g x) xs → sum_over f xs ≤ℤ sum_over g xs
sum_over-mono f g [] h = ≤ℤ_refl (pos 0)
sum_over-mono f g (x ∷ xs) h =
    +ℤ-mono (f x) (g x) (sum_over f xs) (sum_over g xs) (All-head (λ x. f x ≤ℤ g x) x xs h) (sum_over-mono f g xs (All-tail (λ x. f x ≤ℤ g x) x xs h))

-- naturals summed as signed numbers make the same sum as summed as naturals
pub sum_over-pos : {A : Type 0} (f : A → ℕ) (xs : List A) → sum_over (λ x. pos (f x)) xs ≡ pos (nat_sum_over f xs)
sum_over-pos f [] = refl
sum_over-pos f (x ∷ xs) = ap (λ z. pos (f x) +ℤ z) (sum_over-pos f xs)

-- a sum over what g makes of a list's elements is the sum over the elements themselves, each first taken through g
pub sum_over-map : {A B : Type 0} (f : B → ℤ) (g : A → B) (xs : List A)
    → sum_over f (map g xs) ≡ sum_over (λ x. f (g x)) xs
sum_over-map f g [] = refl
sum_over-map f g (x ∷ xs) = ap (λ z. f (g x) +ℤ z) (sum_over-map f g xs)

kept : {A : Type 0} (f : A → ℤ) (b : Bool) (x : A) (xs : List A)
    → sum_over f (cond b (x ∷ xs) xs) ≡ cond b (f x) (pos 0) +ℤ sum_over f xs
kept f true x xs = refl
kept f false x xs = sym (zero-+ℤ (sum_over f xs))

-- a sum over the elements that pass a test
pub sum_over-filter : {A : Type 0} (f : A → ℤ) (p : A → Bool) (xs : List A)
    → sum_over f (filter p xs) ≡ sum_over (λ x. cond (p x) (f x) (pos 0)) xs
sum_over-filter f p [] = refl
sum_over-filter f p (x ∷ xs) = kept f (p x) x (filter p xs) ∙ ap (λ z. cond (p x) (f x) (pos 0) +ℤ z) (sum_over-filter f p xs)

-- the size of a sum is at most the sum of its terms' sizes
pub unsigned_abs-sum_over : {A : Type 0} (f : A → ℤ) (xs : List A)
    → unsigned_abs (sum_over f xs) ≤ nat_sum_over (λ x. unsigned_abs (f x)) xs
unsigned_abs-sum_over f [] = omega arith
unsigned_abs-sum_over f (x ∷ xs) = omega (arith, unsigned_abs-+ℤ (f x) (sum_over f xs), unsigned_abs-sum_over f xs)

-- ---- sums of naturals
-- a sum of naturals over two lists one behind the other is the sums over both, added
pub nat_sum_over-append : {A : Type 0} (f : A → ℕ) (xs ys : List A)
    → nat_sum_over f (xs ++ ys) ≡ nat_sum_over f xs + nat_sum_over f ys
nat_sum_over-append f [] ys = omega arith
nat_sum_over-append f (x ∷ xs) ys = omega (arith, nat_sum_over-append f xs ys)

-- a sum of naturals whose terms are sums of two is two sums, added
pub nat_sum_over-add : {A : Type 0} (f g : A → ℕ) (xs : List A)
    → nat_sum_over (λ x. f x + g x) xs ≡ nat_sum_over f xs + nat_sum_over g xs
nat_sum_over-add f g [] = omega arith
nat_sum_over-add f g (x ∷ xs) = omega (arith, nat_sum_over-add f g xs)

-- functions to the naturals that agree at each element have the same sum
pub nat_sum_over-same : {A : Type 0} (f g : A → ℕ) (xs : List A) → All (λ x. f x ≡ g x) xs
    → nat_sum_over f xs ≡ nat_sum_over g xs
nat_sum_over-same f g [] h = refl
nat_sum_over-same f g (x ∷ xs) h =
    ap (λ z. z + nat_sum_over f xs) (All-head (λ x. f x ≡ g x) x xs h)
    ∙ ap (λ z. g x + z) (nat_sum_over-same f g xs (All-tail (λ x. f x ≡ g x) x xs h))

-- where each natural is at most another, the sum of the first is at most that of the others
pub nat_sum_over-mono : {A : Type 0} (f g : A → ℕ) (xs : List A) → All (λ x. f x ≤ g x) xs
    → nat_sum_over f xs ≤ nat_sum_over g xs
nat_sum_over-mono f g [] h = omega arith
nat_sum_over-mono f g (x ∷ xs) h =
    omega (arith, All-head (λ x. f x ≤ g x) x xs h, nat_sum_over-mono f g xs (All-tail (λ x. f x ≤ g x) x xs h))

-- a factor that all terms have can be taken out of a sum of naturals
pub nat_sum_over-factor : {A : Type 0} (c : ℕ) (f : A → ℕ) (xs : List A)
    → nat_sum_over (λ x. f x * c) xs ≡ nat_sum_over f xs * c
nat_sum_over-factor c f [] = omega arith
nat_sum_over-factor c f (x ∷ xs) = omega (arith, nat_sum_over-factor c f xs)

-- a sum of terms within a bound is at most their number times the bound
pub nat_sum_over-bounded : {A : Type 0} (f : A → ℕ) (bound : ℕ) (xs : List A) → All (λ x. f x ≤ bound) xs
    → nat_sum_over f xs ≤ length xs * bound
nat_sum_over-bounded f bound [] h = omega arith
nat_sum_over-bounded f bound (x ∷ xs) h =
    omega (arith, All-head (λ x. f x ≤ bound) x xs h, nat_sum_over-bounded f bound xs (All-tail (λ x. f x ≤ bound) x xs h))

-- the sum of std, which goes from the first element on
from_first : (a : ℕ) (xs : List ℕ) → fold (λ a x. a + x) a xs ≡ a + nat_sum_over (λ x. x) xs
from_first a [] = omega arith
from_first a (x ∷ xs) = omega (arith, from_first (a + x) xs)

pub nat_sum_over-sum : (xs : List ℕ) → nat_sum_over (λ x. x) xs ≡ sum xs
nat_sum_over-sum xs = omega (arith, from_first 0 xs)

-- the size of a sum is at most the sum of the sizes, and that of a product is their product
pub size_laws : SizeLaws
size_laws = record {
  of_sum = unsigned_abs-+ℤ;
  of_product = unsigned_abs-mul;
  of_sum_over = λ f xs. unsigned_abs-sum_over f xs;
  of_bounded = λ f bound xs h. nat_sum_over-bounded f bound xs h;
}

-- a sum over a list spreads over its parts, over sums and over a factor, and two can be taken in either order
pub sum_laws : SumLaws
sum_laws = record {
  over_parts = λ f xs ys. sum_over-append f xs ys;
  over_sum = λ f g xs. sum_over-+ℤ f g xs;
  over_factor = λ c f xs. sum_over-factor c f xs;
  exchange = λ f xs ys. sum_over-exchange f xs ys;
  in_order = λ f g xs h. sum_over-mono f g xs h;
  of_naturals = λ f xs. sum_over-pos f xs;
  as_sum = nat_sum_over-sum;
}
