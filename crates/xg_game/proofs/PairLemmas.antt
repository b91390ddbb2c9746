-- Lists that are compared pair by pair.
use Rattle.std.proofs.Common.{◌≡◌, ℕ, zero, suc, ◌+◌, Bool, true, false, ◌&&◌, List, [], ◌∷◌, drop, slice_get, Some, ap, sym, ◌∙◌, add-one}
use Rattle.std.specs.Cmp.Lexicographic.{pointwise}

module _ {A B : Type 0} (E : A → B → Bool) where
  pair_at : (xs : List A) (ys : List B) (i : ℕ) (x : A) (y : B) → slice_get xs i ≡ Some x → slice_get ys i ≡ Some y
      → pointwise E (drop i xs) (drop i ys) ≡ E x y && pointwise E (drop (suc i) xs) (drop (suc i) ys)
  pair_at [] ys i x y left right = cc
  pair_at (a ∷ xs) [] i x y left right = cc
  pair_at (a ∷ xs) (b ∷ ys) zero x y left right =
      let same : a ≡ x = cc in
      let also : b ≡ y = cc in
      λ j. E (same j) (also j) && pointwise E xs ys
  pair_at (a ∷ xs) (b ∷ ys) (suc i) x y left right = pair_at xs ys i x y left right

  -- what is compared from a place on, where the pair there is the same
  pub after_same : (xs : List A) (ys : List B) (i : ℕ) (x : A) (y : B) → slice_get xs i ≡ Some x
      → slice_get ys i ≡ Some y → E x y ≡ true
      → pointwise E (drop (i + 1) xs) (drop (i + 1) ys) ≡ pointwise E (drop i xs) (drop i ys)
  after_same xs ys i x y left right same =
      ap (λ n. pointwise E (drop n xs) (drop n ys)) (add-one i)
      ∙ sym (pair_at xs ys i x y left right ∙ ap (λ b. b && pointwise E (drop (suc i) xs) (drop (suc i) ys)) same)

  -- and where it differs
  pub at_other : (xs : List A) (ys : List B) (i : ℕ) (x : A) (y : B) → slice_get xs i ≡ Some x → slice_get ys i ≡ Some y
      → E x y ≡ false → pointwise E (drop i xs) (drop i ys) ≡ false
  at_other xs ys i x y left right other = pair_at xs ys i x y left right ∙ ap (λ b. b && pointwise E (drop (suc i) xs) (drop (suc i) ys)) other
