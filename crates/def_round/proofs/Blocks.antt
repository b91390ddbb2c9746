-- Lists with a block for each set, one block after the other.
use Rattle.std.proofs.Common.{◌≡◌, ℕ, zero, suc, ◌+◌, ◌-◌, ◌≤◌, ◌<◌, List, [], ◌∷◌, ◌++◌, map, zip, length, get_or, drop, All, arith, ap, sym, ◌∙◌, refl, subst}
use Rattle.std.proofs.Common.{length-append, append_assoc, add-zero}
use Rattle.std.specs.List.{range_with_len, AllZip, flat_map}
use Rattle.std.proofs.lemmas.List.{get_or-append-add, drop_all}
use Rattle.std.proofs.lemmas.List.Elements.{All-cons, All-nil}
use Rattle.std.proofs.lemmas.List.FromFn.{get_or-map-range_with_len}
use Rattle.std.proofs.Math.Seq.{drop-cons}
use Rattle.def_sums.specs.Sum.{nat_sum_over}
use Rattle.def_plan.specs.Form.{InformationSet, PlacedSet, placed_from, sequences_of}

-- two functions with one list of values at a row agree there
pub same_at : {A : Type 0} (f g : ℕ → A) (a n : ℕ) → map f (range_with_len a n) ≡ map g (range_with_len a n) → (s : ℕ)
    → a ≤ s → s < a + n → f s ≡ g s
same_at f g a n same s low high =
    let below : s - a < n = omega arith in
    let is : a + (s - a) ≡ s = omega arith in
    sym (get_or-map-range_with_len f a n (s - a) s (f s) below is) ∙ ap (λ xs. get_or xs (s - a) (f s)) same
    ∙ get_or-map-range_with_len g a n (s - a) s (f s) below is

-- what stands in a list after its front
pub at_front : {A : Type 0} (front : List A) (x : A) (rest : List A) (first : ℕ) (d : A) → length front ≡ first
    → get_or (front ++ x ∷ rest) first d ≡ x
at_front front x rest first d e =
    ap (λ k. get_or (front ++ x ∷ rest) k d) (sym e ∙ sym (add-zero (length front))) ∙ get_or-append-add front (x ∷ rest) 0 d

-- the elements behind a front, as many as the block has, are the block
pub map-block : {A : Type 0} (front block rest : List A) (first : ℕ) (d : A) → length front ≡ first
    → map (λ s. get_or (front ++ (block ++ rest)) s d) (range_with_len first (length block)) ≡ block
map-block front [] rest first d e = refl
map-block front (x ∷ block) rest first d e =
    let longer : length (front ++ x ∷ []) ≡ first + 1 = omega (arith, length-append front (x ∷ [])) in
    let same : (front ++ x ∷ []) ++ (block ++ rest) ≡ front ++ (x ∷ (block ++ rest)) = append_assoc front (x ∷ []) (block ++ rest) in
    ap (λ y. y ∷ map (λ s. get_or (front ++ (x ∷ (block ++ rest))) s d) (range_with_len (first + 1) (length block)))
    (at_front front x (block ++ rest) first d e)
    ∙ ap (λ w. x ∷ map (λ s. get_or w s d) (range_with_len (first + 1) (length block))) (sym same)
    ∙ ap (λ xs. x ∷ xs) (map-block (front ++ x ∷ []) block rest (first + 1) d longer)

-- the blocks of sets, from a function of the set
pub blocks : {A : Type 0} (f : PlacedSet → List A) (d : A) → ((h : PlacedSet) → length (f h) ≡ h.actions)
    → (front : List A) (first : ℕ) (sets : List InformationSet) → length front ≡ first
    → All (λ h. map (λ s. get_or (front ++ flat_map f (placed_from first sets)) s d) (sequences_of h) ≡ f h) (placed_from first sets)
blocks f d sizes front first [] e = All-nil (λ h. map (λ s. get_or (front ++ []) s d) (sequences_of h) ≡ f h)
blocks f d sizes front first (h ∷ hs) e =
    let here : PlacedSet = record { first = first; before = h.before; actions = h.actions } in
    let rest : List PlacedSet = placed_from (first + h.actions) hs in
    let longer : length (front ++ f here) ≡ first + h.actions = omega (arith, length-append front (f here), sizes here) in
    let same : (front ++ f here) ++ flat_map f rest ≡ front ++ (f here ++ flat_map f rest) = append_assoc front (f here) (flat_map f rest) in
    All-cons (λ h'. map (λ s. get_or (front ++ (f here ++ flat_map f rest)) s d) (sequences_of h') ≡ f h') here rest
    (ap (λ n. map (λ s. get_or (front ++ (f here ++ flat_map f rest)) s d) (range_with_len first n)) (sym (sizes here))
    ∙ map-block front (f here) (flat_map f rest) first d e)
    (subst (λ w. All (λ h'. map (λ s. get_or w s d) (sequences_of h') ≡ f h') rest) same (blocks f d sizes (front ++ f here) (first + h.actions) hs longer))

-- blocks with an element for each action have together as many elements as the sets have actions
pub length-blocks : {A : Type 0} (f : PlacedSet → List A) → ((h : PlacedSet) → length (f h) ≡ h.actions)
    → (first : ℕ) (sets : List InformationSet)
    → length (flat_map f (placed_from first sets)) ≡ nat_sum_over (λ h. h.actions) sets
length-blocks f sizes first [] = refl
length-blocks f sizes first (h ∷ hs) =
    let here : PlacedSet = record { first = first; before = h.before; actions = h.actions } in
    omega (arith, length-append (f here) (flat_map f (placed_from (first + h.actions) hs)), sizes here, length-blocks f sizes (first + h.actions) hs)

-- the same from a function of the set and a second list
pub blocks_zip : {A B : Type 0} (f : PlacedSet → B → List A) (d : A)
    → ((h : PlacedSet) (b : B) → length (f h b) ≡ h.actions)
    → (front : List A) (first : ℕ) (sets : List InformationSet) (bs : List B) → length bs ≡ length sets
    → length front ≡ first
    → AllZip (λ h b. map (λ s. get_or (front ++ flat_map (λ p. f p.0 p.1) (zip (placed_from first sets) bs)) s d) (sequences_of h) ≡ f h b)
    (placed_from first sets) bs
blocks_zip f d sizes front first [] [] l e = tt
blocks_zip f d sizes front first [] (b ∷ bs) l e = absurd (omega arith)
blocks_zip f d sizes front first (h ∷ hs) [] l e = absurd (omega arith)
blocks_zip {A} {B} f d sizes front first (h ∷ hs) (b ∷ bs) l e =
    let here : PlacedSet = record { first = first; before = h.before; actions = h.actions } in
    let rest : List PlacedSet = placed_from (first + h.actions) hs in
    let tail : List A = flat_map (λ p. f p.0 p.1) (zip rest bs) in
    let longer : length (front ++ f here b) ≡ first + h.actions = omega (arith, length-append front (f here b), sizes here b) in
    let same : (front ++ f here b) ++ tail ≡ front ++ (f here b ++ tail) = append_assoc front (f here b) tail in (
      ap (λ n. map (λ s. get_or (front ++ (f here b ++ tail)) s d) (range_with_len first n)) (sym (sizes here b)) ∙ map-block front (f here b) tail first d e,
      subst (λ w. AllZip (λ h' b'. map (λ s. get_or w s d) (sequences_of h') ≡ f h' b') rest bs) same
          (blocks_zip f d sizes (front ++ f here b) (first + h.actions) hs bs (omega arith) longer),
    )

-- so have the blocks that are made from a second list too
pub length-blocks_zip : {A B : Type 0} (f : PlacedSet → B → List A)
    → ((h : PlacedSet) (b : B) → length (f h b) ≡ h.actions) → (first : ℕ) (sets : List InformationSet) (bs : List B)
    → length bs ≡ length sets
    → length (flat_map (λ p. f p.0 p.1) (zip (placed_from first sets) bs)) ≡ nat_sum_over (λ h. h.actions) sets
length-blocks_zip f sizes first [] [] l = refl
length-blocks_zip f sizes first [] (b ∷ bs) l = absurd (omega arith)
length-blocks_zip f sizes first (h ∷ hs) [] l = absurd (omega arith)
length-blocks_zip f sizes first (h ∷ hs) (b ∷ bs) l =
    let here : PlacedSet = record { first = first; before = h.before; actions = h.actions } in
    omega (
      arith,
      length-append (f here b) (flat_map (λ p. f p.0 p.1) (zip (placed_from (first + h.actions) hs) bs)),
      sizes here b,
      length-blocks_zip f sizes (first + h.actions) hs bs (omega arith),
    )

-- a list is what its blocks say
pub drop-range : {A : Type 0} (xs : List A) (d : A) (first n : ℕ) → first + n ≤ length xs
    → drop first xs ≡ map (λ s. get_or xs s d) (range_with_len first n) ++ drop (first + n) xs
drop-range xs d first zero fits = ap (λ k. drop k xs) (sym (add-zero first))
drop-range xs d first (suc n) fits =
    let below : first < length xs = omega arith in
    let next : suc first ≡ first + 1 = omega arith in
    let end : first + 1 + n ≡ first + suc n = omega arith in
    drop-cons xs first d below
    ∙ ap (λ k. get_or xs first d ∷ drop k xs) next
    ∙ ap (λ ys. get_or xs first d ∷ ys) (drop-range xs d (first + 1) n (omega arith))
    ∙ ap (λ k. get_or xs first d ∷ (map (λ s. get_or xs s d) (range_with_len (first + 1) n) ++ drop k xs)) end

-- a list that has each set's block at its place is, from the first place on, one block after the other
pub drop-blocks_zip : {A B : Type 0} (f : PlacedSet → B → List A) (d : A) (xs : List A) (first : ℕ)
    (sets : List InformationSet) (bs : List B)
    → length xs ≡ first + nat_sum_over (λ h. h.actions) sets
    → AllZip (λ h b. map (λ s. get_or xs s d) (sequences_of h) ≡ f h b) (placed_from first sets) bs
    → drop first xs ≡ flat_map (λ p. f p.0 p.1) (zip (placed_from first sets) bs)
drop-blocks_zip f d xs first [] [] l all = drop_all first xs (omega arith)
drop-blocks_zip f d xs first [] (b ∷ bs) l all = elim all [ ]
drop-blocks_zip f d xs first (h ∷ hs) [] l all = elim all [ ]
drop-blocks_zip f d xs first (h ∷ hs) (b ∷ bs) l all =
    let later = drop-blocks_zip f d xs (first + h.actions) hs bs (omega arith) all.1 in
    drop-range xs d first h.actions (omega arith) ∙ ap (λ block. block ++ drop (first + h.actions) xs) all.0
    ∙ ap (λ ys. f (record { first = first; before = h.before; actions = h.actions }) b ++ ys) later
