-- A file in memory: finding it by name, and reading on from a place.
use Rattle.std.proofs.Common.{◌≡◌, ◌↔◌, ℕ, ◌+◌, ◌<◌, min, List, [], ◌∷◌, ◌++◌, length, take, drop, Bool, true, false, cond, ltb, Option, Some, None, IfSome}
use Rattle.std.proofs.Common.{refl, sym, ◌∙◌, ap, subst, arith}
use Rattle.std.specs.Prelude.{position, find, slice_get, IfNone}
use Rattle.std.specs.List.{position_or_len}
use Rattle.std.specs.Option.{option_map, option_and_then}
use Rattle.std.specs.Io.KnownBytes.{Consumes}
use Rattle.std.proofs.lemmas.Bool.{ltb-false, ltb-true}
use Rattle.std.proofs.lemmas.Option.{cond_some, slice_get_past}
use Rattle.std.proofs.lemmas.List.{take-append-drop, drop-drop}
use Rattle.std.proofs.lemmas.List.Folds.{find_at}

cond_none : {A : Type 0} (b : Bool) (x : A) → cond b (Some x) None ≡ None → b ≡ false
cond_none true x e = cc
cond_none false x e = refl

-- where nothing is found there is nothing
pub absent : {X Y : Type 0} (f : Option X → Option Y) (p : X → Bool) (xs : List X) (place : Option ℕ) → f None ≡ None
    → place ≡ position p xs
    → IfNone place (f (find p xs) ≡ None)
absent f p xs (Some i) n e = tt
absent f p xs None n e = ap f (find_at p xs ∙ slice_get_past xs (position_or_len p xs)
    (ltb-false (position_or_len p xs) (length xs) (cond_none (ltb (position_or_len p xs) (length xs)) (position_or_len p xs) (sym e)))) ∙ n

-- what is found is at the place that was found
pub located : {X Y : Type 0} (f : Option X → Y) (p : X → Bool) (xs : List X) (place : Option ℕ) → place ≡ position p xs
    → IfSome place (λ i. f (find p xs) ≡ f (slice_get xs i))
located f p xs None e = tt
located f p xs (Some i) e = ap f (find_at p xs ∙ ap (slice_get xs) ((cond_some (ltb (position_or_len p xs) (length xs)) (position_or_len p xs) i (sym e)).1))

-- the place is one of the list's
pub in_list : {X : Type 0} (p : X → Bool) (xs : List X) (place : Option ℕ) → place ≡ position p xs
    → IfSome place (λ i. i < length xs)
in_list p xs None e = tt
in_list p xs (Some i) e = let f = cond_some (ltb (position_or_len p xs) (length xs)) (position_or_len p xs) i (sym e) in omega
    (arith, ltb-true (position_or_len p xs) (length xs) f.0, f.1)

nil_of : (xs : List ℕ) → length xs ≡ 0 → xs ≡ []
nil_of [] e = refl
nil_of (x ∷ xs) e = absurd (omega arith)

-- what is left of the open file
abbrev pub left_in : (ℕ → Option (List ℕ)) → ℕ → Option ℕ → Option (List ℕ)
left_in bytes taken current = option_and_then (λ place. option_map (drop taken) (bytes place)) current

-- reading on in an open file
pub reads_on : (bytes : ℕ → Option (List ℕ)) (current : Option ℕ) (place taken n : ℕ) (all rest got : List ℕ)
    → current ≡ Some place → bytes place ≡ Some all → rest ≡ drop taken all → got ≡ take n rest
    → Consumes (left_in bytes taken current) (left_in bytes (taken + n) current) got
reads_on bytes current place taken n all rest got c b r g =
    let L : ℕ → Option (List ℕ) = λ k. left_in bytes k current in
    let at : (k : ℕ) → L k ≡ Some (drop k all) = λ k. ap (left_in bytes k) c ∙ ap (option_map (drop k)) b in
    subst (λ (o : Option (List ℕ)). Consumes o (L (taken + n)) got) (sym (at taken))
    (subst (λ (o : Option (List ℕ)). Consumes (Some (drop taken all)) o got) (sym (at (taken + n)))
    (sym (ap (λ (front : List ℕ). front ++ drop (taken + n) all) (g ∙ ap (take n) r)
    ∙ ap (λ (back : List ℕ). take n (drop taken all) ++ back) (sym (drop-drop n taken all)) ∙ take-append-drop n (drop taken all))))

-- nothing is read exactly where nothing is left
pub reads_none : (bytes : ℕ → Option (List ℕ)) (current : Option ℕ) (place taken n room : ℕ) (all rest : List ℕ)
    → current ≡ Some place → bytes place ≡ Some all → rest ≡ drop taken all → n ≡ min room (length rest) → 0 < room
    → IfSome (left_in bytes taken current) (λ left. (n ≡ 0) ↔ (left ≡ []))
reads_none bytes current place taken n room all rest c b r e h =
    let at : left_in bytes taken current ≡ Some rest = ap (left_in bytes taken) c ∙ ap (option_map (drop taken)) b ∙ ap Some (sym r) in
    subst (λ (o : Option (List ℕ)). IfSome o (λ left. (n ≡ 0) ↔ (left ≡ []))) (sym at)
    ((λ none. nil_of rest (omega arith)), (λ nil. omega (arith, ap length nil)))

-- what fits is read
pub reads_what_fits : (bytes : ℕ → Option (List ℕ)) (current : Option ℕ) (place taken n room : ℕ) (all rest : List ℕ)
    → current ≡ Some place → bytes place ≡ Some all → rest ≡ drop taken all → n ≡ min room (length rest)
    → IfSome (left_in bytes taken current) (λ left. n ≡ min room (length left))
reads_what_fits bytes current place taken n room all rest c b r e =
    let at : left_in bytes taken current ≡ Some rest = ap (left_in bytes taken) c ∙ ap (option_map (drop taken)) b ∙ ap Some (sym r) in
    subst (λ (o : Option (List ℕ)). IfSome o (λ left. n ≡ min room (length left))) (sym at) e
