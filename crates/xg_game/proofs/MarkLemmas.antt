-- Marks of numbers, and one number more.
use Rattle.std.proofs.Common.{◌≡◌, ℕ, ◌+◌, ◌<◌, ◌≤◌, Bool, true, false, not, cond, ltb, eqb, nat_eq, List, [], ◌∷◌, ◌++◌, length, position, Some, None, refl}
use Rattle.std.proofs.Common.{sym, ap, ◌∙◌, subst, eq-eqb, ne_eqb, arith, add-zero, length-append}
use Rattle.std.specs.List.{position_or_len}
use Rattle.indexmap.specs.IndexMap.{IndexMap}
use Rattle.std.proofs.lemmas.Bool.{eqb-true, eqb-false, ltb-false, lt-ltb, le-ltb}
use Rattle.std.proofs.lemmas.List.Folds.{position_or_len_push}
use Rattle.xg_game.specs.Marks.{marked, mark_of, MarksEach}

-- a first place is within the list, or its end
first-le : {X : Type 0} (p : X → Bool) (xs : List X) → position_or_len p xs ≤ length xs
first-le p [] = omega arith
first-le {X} p (x ∷ xs) = by (first-le p xs) (not (p x))
  where
    by : position_or_len p xs ≤ length xs → (b : Bool) → cond b (1 + position_or_len p xs) 0 ≤ length (x ∷ xs)
    by rest true = omega arith
    by rest false = omega arith

-- a first place that isn't before the end is the end
at_end : (first end : ℕ) → first ≤ end → cond (ltb first end) (Some first) None ≡ None → first ≡ end
at_end first end within none = by (ltb first end) refl none
  where
    by : (b : Bool) → ltb first end ≡ b → cond b (Some first) None ≡ None → first ≡ end
    by true e none = cc
    by false e none = omega (arith, ltb-false first end e)

-- the place of a number that is put last
module _ (p : ℕ → Bool) (xs : List ℕ) (x : ℕ) where
  seen : (first : ℕ) → position_or_len p (xs ++ x ∷ []) ≡ first
      → position p (xs ++ x ∷ []) ≡ cond (ltb first (length xs + 1)) (Some first) None
  seen first is = λ i. cond (ltb (is i) (length-append xs (x ∷ []) i)) (Some (is i)) None

  pushed : (b : Bool) → eqb (position_or_len p xs) (length xs) ≡ b
      → position_or_len p (xs ++ x ∷ []) ≡ cond b (length xs + cond (p x) 0 1) (position_or_len p xs)
  pushed b e = position_or_len_push p xs x ∙ ap (λ c. cond c (length xs + cond (p x) 0 1) (position_or_len p xs)) e

  -- none passes, and the last does
  pub position-last : p x ≡ true → position p xs ≡ None → position p (xs ++ x ∷ []) ≡ Some (length xs)
  position-last passes none =
      let end : position_or_len p xs ≡ length xs = at_end (position_or_len p xs) (length xs) (first-le p xs) none in
      let place : position_or_len p (xs ++ x ∷ []) ≡ length xs = pushed true (eq-eqb (position_or_len p xs) (length xs) end)
      ∙ ap (λ c. length xs + cond c 0 1) passes ∙ add-zero (length xs) in
      seen (length xs) place ∙ ap (λ c. cond c (Some (length xs)) None) (lt-ltb (length xs) (length xs + 1) (omega arith))

  -- the last doesn't pass
  pub position-before : p x ≡ false → position p (xs ++ x ∷ []) ≡ position p xs
  position-before fails = by (eqb (position_or_len p xs) (length xs)) refl
    where
      by : (b : Bool) → eqb (position_or_len p xs) (length xs) ≡ b → position p (xs ++ x ∷ []) ≡ position p xs
      by true e =
          let end : position_or_len p xs ≡ length xs = eqb-true (position_or_len p xs) (length xs) e in
          seen (length xs + 1) (pushed true e ∙ ap (λ c. length xs + cond c 0 1) fails)
          ∙ ap (λ c. cond c (Some (length xs + 1)) None) (le-ltb (length xs + 1) (length xs + 1) (omega arith))
          ∙ sym (ap (λ c. cond c (Some (position_or_len p xs)) None) (le-ltb (position_or_len p xs) (length xs) (omega arith)))
      by false e =
          let other : position_or_len p xs ≡ length xs → ⊥ = eqb-false (position_or_len p xs) (length xs) e in
          let within : position_or_len p xs ≤ length xs = first-le p xs in
          seen (position_or_len p xs) (pushed false e)
          ∙ ap (λ c. cond c (Some (position_or_len p xs)) None) (lt-ltb (position_or_len p xs) (length xs + 1) (omega arith))
          ∙ sym (ap (λ c. cond c (Some (position_or_len p xs)) None) (lt-ltb (position_or_len p xs) (length xs) (omega arith)))

-- one number more, with its mark
pub MarksEach-push : {S : Type 0} (numbers near new : List ℕ) (far after : IndexMap ℕ ℕ S) (number : ℕ) → MarksEach numbers near far
    → position (nat_eq number) numbers ≡ None
    → ((n : ℕ) → mark_of new after n ≡ cond (nat_eq n number) (length numbers + 1) (mark_of near far n))
    → MarksEach (numbers ++ number ∷ []) new after
MarksEach-push numbers near new far after number marks none set = record { each = λ n. by n (nat_eq n number) refl }
  where
    by : (n : ℕ) (b : Bool) → nat_eq n number ≡ b
        → mark_of new after n ≡ marked (position (nat_eq n) (numbers ++ number ∷ []))
    by n true e =
        let same : number ≡ n = sym (eqb-true n number e) in
        let absent : position (nat_eq n) numbers ≡ None = subst (λ (k : ℕ). position (nat_eq k) numbers ≡ None) same none in
        set n ∙ ap (λ b. cond b (length numbers + 1) (mark_of near far n)) e ∙ ap marked (sym (position-last (nat_eq n) numbers number e absent))
    by n false e =
        set n ∙ ap (λ b. cond b (length numbers + 1) (mark_of near far n)) e ∙ marks.each n ∙ ap marked (sym (position-before (nat_eq n) numbers number e))

-- and none above it
pub above-push : (numbers : List ℕ) (greatest next number : ℕ)
    → ((n : ℕ) → greatest < n → marked (position (nat_eq n) numbers) ≡ 0) → greatest ≤ next → number ≤ next
    → (n : ℕ) → next < n → marked (position (nat_eq n) (numbers ++ number ∷ [])) ≡ 0
above-push numbers greatest next number above rises within n beyond =
    ap marked (position-before (nat_eq n) numbers number (ne_eqb n number (λ same. omega arith))) ∙ above n (omega arith)
