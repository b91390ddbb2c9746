-- For code that goes over the sets from the last one on, or tests them one by one.
use Rattle.std.proofs.Common.{◌≡◌, ℕ, zero, suc, ◌<◌, Bool, true, false, cond, eqb, List, [], ◌∷◌, zip, filter, length, get_or, ℤ, ◌+ℤ◌, arith, ap, refl}
use Rattle.std.specs.List.{AllZip}
use Rattle.std.proofs.lemmas.Int.{ints}
use Rattle.def_sums.specs.Sum.{sum_over}
use Rattle.def_plan.specs.Form.{PlacedSet}
use Rattle.def_plan.specs.Payoff.{worth, values_after}

-- w and a sum that takes in a pair's number if b is true are w and the sum without it, and this number if b is true
kept : (b : Bool) (p : PlacedSet × ℤ) (ps : List (PlacedSet × ℤ)) (w : ℤ)
    → w +ℤ sum_over (λ q. q.1) (cond b (p ∷ ps) ps)
    ≡ cond b (w +ℤ sum_over (λ q. q.1) ps +ℤ p.1) (w +ℤ sum_over (λ q. q.1) ps)
kept true p ps w = omega (arith, ints)
kept false p ps w = refl

-- one more set in front adds its value to the worth of the sequence before it, and to no other
pub worth-cons : (sums : ℕ → ℤ) (h : PlacedSet) (hs : List PlacedSet) (v : ℤ) (vs : List ℤ) (s : ℕ)
    → worth sums (h ∷ hs) (v ∷ vs) s ≡ cond (eqb h.before s) (worth sums hs vs s +ℤ v) (worth sums hs vs s)
worth-cons sums h hs v vs s = kept (eqb h.before s) (h, v) (filter (λ p. eqb p.0.before s) (zip hs vs)) (sums s)

-- worths agree where the sums do
pub worth_same : (sums other : ℕ → ℤ) (hs : List PlacedSet) (values : List ℤ) (s : ℕ) → sums s ≡ other s
    → worth sums hs values s ≡ worth other hs values s
worth_same sums other hs values s e = ap (λ x. x +ℤ values_after hs values s) e

-- a fact on two lists by places
pub AllZip-from_places : {A B : Type 0} (R : A → B → Type 0) (xs : List A) (ys : List B) → length xs ≡ length ys
    → ((k : ℕ) (a : A) (b : B) → k < length xs → R (get_or xs k a) (get_or ys k b)) → AllZip R xs ys
AllZip-from_places R [] [] e h = tt
AllZip-from_places R [] (y ∷ ys) e h = absurd (omega arith)
AllZip-from_places R (x ∷ xs) [] e h = absurd (omega arith)
AllZip-from_places R (x ∷ xs) (y ∷ ys) e h = (h 0 x y (omega arith), AllZip-from_places R xs ys (omega arith) (λ k a b low. h (suc k) a b (omega arith)))

-- two lists that are related pair by pair are so at each place
pub AllZip-at : {A B : Type 0} (R : A → B → Type 0) (xs : List A) (ys : List B) → AllZip R xs ys
    → (k : ℕ) (a : A) (b : B) → k < length xs → R (get_or xs k a) (get_or ys k b)
AllZip-at R [] [] h k a b low = absurd (omega arith)
AllZip-at R [] (y ∷ ys) h k a b low = elim h [ ]
AllZip-at R (x ∷ xs) [] h k a b low = elim h [ ]
AllZip-at R (x ∷ xs) (y ∷ ys) h zero a b low = h.0
AllZip-at R (x ∷ xs) (y ∷ ys) h (suc k) a b low = AllZip-at R xs ys h.1 k a b (omega arith)
