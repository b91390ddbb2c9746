-- Numbers in the order of first appearance, with one more number, and the places of numbers in them.
use Rattle.std.proofs.Common.{◌≡◌, ℕ, ◌+◌, ◌<◌, Bool, true, false, cond, not, ◌||◌, List, [], ◌∷◌, ◌++◌, length, refl, sym, ap, ◌∙◌, append-nil, arith}
use Rattle.std.specs.Prelude.{nat_eq, filter}
use Rattle.std.specs.List.{list_any, position_or_len}
use Rattle.std.proofs.lemmas.Bool.{eqb-true, eqb-false, ne_eqb, eq-eqb, or_parts, not_from_true, not_from_false}
use Rattle.std.proofs.lemmas.List.Elements.{filter-append}
use Rattle.std.proofs.lemmas.Map.Views.{any-filter_same}
use Rattle.def_file.specs.Entries.{firsts, number_in}

-- whether a number is among these
abbrev pub among : ℕ → List ℕ → Bool
among n ns = list_any (λ m. nat_eq n m) ns

abbrev other : ℕ → ℕ → Bool
other n m = not (nat_eq n m)

-- the test of two numbers, turned
pub nat_eq-sym : (n m : ℕ) → nat_eq n m ≡ false → nat_eq m n ≡ false
nat_eq-sym n m h = ne_eqb m n (λ e. eqb-false n m h (sym e))

-- a number passes its own test
pub nat_eq-same : (n : ℕ) → nat_eq n n ≡ true
nat_eq-same n = eq-eqb n n refl

-- one more number

keep_one : (n m : ℕ) → nat_eq m n ≡ false → filter (other m) (n ∷ []) ≡ n ∷ []
keep_one n m h = ap (λ (b : Bool). cond (not b) (n ∷ []) []) h

drop_one : (n m : ℕ) → nat_eq m n ≡ true → filter (other m) (n ∷ []) ≡ []
drop_one n m h = ap (λ (b : Bool). cond (not b) (n ∷ []) []) h

-- a new number comes last
pub firsts-new : (n : ℕ) (ns : List ℕ) → among n ns ≡ false → firsts (ns ++ n ∷ []) ≡ firsts ns ++ n ∷ []
firsts-new n [] h = refl
firsts-new n (m ∷ ns) h =
    let parts = or_parts (nat_eq n m) (among n ns) h in
    ap (λ (ms : List ℕ). m ∷ filter (other m) ms) (firsts-new n ns parts.1)
    ∙ ap (λ (ms : List ℕ). m ∷ ms) (filter-append (other m) (firsts ns) (n ∷ []))
    ∙ ap (λ (ms : List ℕ). m ∷ (filter (other m) (firsts ns) ++ ms)) (keep_one n m (nat_eq-sym n m parts.0))

seen_step : (n m : ℕ) (ns : List ℕ) (here behind : Bool) → nat_eq n m ≡ here → among n ns ≡ behind
    → (here || behind) ≡ true
    → (among n ns ≡ true → firsts (ns ++ n ∷ []) ≡ firsts ns) → firsts (m ∷ (ns ++ n ∷ [])) ≡ firsts (m ∷ ns)
seen_step n m ns here true e f h known = ap (λ (ms : List ℕ). m ∷ filter (other m) ms) (known f)
seen_step n m ns true false e f h known =
    ap (λ (ms : List ℕ). m ∷ filter (other m) ms) (firsts-new n ns f)
    ∙ ap (λ (ms : List ℕ). m ∷ ms) (filter-append (other m) (firsts ns) (n ∷ []))
    ∙ ap (λ (ms : List ℕ). m ∷ (filter (other m) (firsts ns) ++ ms)) (drop_one n m (eq-eqb m n (sym (eqb-true n m e))))
    ∙ ap (λ (ms : List ℕ). m ∷ ms) (append-nil (filter (other m) (firsts ns)))
seen_step n m ns false false e f h known = absurd cc

-- a number that was there changes nothing
pub firsts-seen : (n : ℕ) (ns : List ℕ) → among n ns ≡ true → firsts (ns ++ n ∷ []) ≡ firsts ns
firsts-seen n [] h = absurd cc
firsts-seen n (m ∷ ns) h = seen_step n m ns (nat_eq n m) (among n ns) refl refl h (firsts-seen n ns)

-- the numbers stay the same ones, each once

among_kept : (n m : ℕ) (ns : List ℕ) → nat_eq n m ≡ false → among n (filter (other m) ns) ≡ among n ns
among_kept n m ns h = any-filter_same (λ k. nat_eq n k) (other m) true (λ k e. not_from_false (nat_eq m k)
    (nat_eq-sym k m (ap (λ (x : ℕ). nat_eq x m) (sym (eqb-true n k e)) ∙ h))) ns

among_dropped : (n : ℕ) (ns : List ℕ) → among n (filter (other n) ns) ≡ false
among_dropped n ns = any-filter_same (λ k. nat_eq n k) (other n) false (λ k e. not_from_true (nat_eq n k) e) ns

among_step : (n m : ℕ) (ns : List ℕ) (here : Bool) → nat_eq n m ≡ here → among n (firsts ns) ≡ among n ns
    → (here || among n (filter (other m) (firsts ns))) ≡ (here || among n ns)
among_step n m ns true e known = refl
among_step n m ns false e known = among_kept n m (firsts ns) e ∙ known

-- the numbers are the same
pub among-firsts : (n : ℕ) (ns : List ℕ) → among n (firsts ns) ≡ among n ns
among-firsts n [] = refl
among-firsts n (m ∷ ns) = among_step n m ns (nat_eq n m) refl (among-firsts n ns)

-- no number stands twice
abbrev pub Distinct : List ℕ → Type 0
Distinct [] = Unit {0}
Distinct (n ∷ ns) = (among n ns ≡ false) × Distinct ns

among_filter : (test : ℕ → Bool) (n : ℕ) (ns : List ℕ) → among n ns ≡ false → among n (filter test ns) ≡ false
among_filter test n [] h = refl
among_filter test n (m ∷ ns) h =
    let parts = or_parts (nat_eq n m) (among n ns) h in
    let behind : among n (filter test ns) ≡ false = among_filter test n ns parts.1 in
    elim (test m) as (λ (b : Bool). among n (cond b (m ∷ filter test ns) (filter test ns)) ≡ false)
    [ true ↦ ap (λ (b : Bool). b || among n (filter test ns)) parts.0 ∙ behind | false ↦ behind ]

Distinct_filter : (test : ℕ → Bool) (ns : List ℕ) → Distinct ns → Distinct (filter test ns)
Distinct_filter test [] h = tt
Distinct_filter test (n ∷ ns) h =
    elim (test n) as (λ (b : Bool). Distinct (cond b (n ∷ filter test ns) (filter test ns)))
    [ true ↦ (among_filter test n ns h.0, Distinct_filter test ns h.1) | false ↦ Distinct_filter test ns h.1 ]

-- each number stands once
pub firsts-distinct : (ns : List ℕ) → Distinct (firsts ns)
firsts-distinct [] = tt
firsts-distinct (n ∷ ns) = (among_dropped n (firsts ns), Distinct_filter (other n) (firsts ns) (firsts-distinct ns))

-- places

-- where a number stands, or the length
abbrev pub place : ℕ → List ℕ → ℕ
place n ns = position_or_len (λ m. nat_eq n m) ns

place_step : (n : ℕ) (ns : List ℕ) (here : Bool) → (among n ns ≡ true → place n ns < length ns)
    → (here || among n ns) ≡ true → cond (not here) (1 + place n ns) 0 < length (n ∷ ns)
place_step n ns true known h = omega arith
place_step n ns false known h = let k = known h in omega arith

-- a number that is among them has a place
pub place-among : (n : ℕ) (ns : List ℕ) → among n ns ≡ true → place n ns < length ns
place-among n [] h = absurd cc
place-among n (m ∷ ns) h = place_step n ns (nat_eq n m) (place-among n ns) h

-- and any other has none
pub place-not_among : (n : ℕ) (ns : List ℕ) → among n ns ≡ false → place n ns ≡ length ns
place-not_among n [] h = refl
place-not_among n (m ∷ ns) h =
    let parts = or_parts (nat_eq n m) (among n ns) h in
    let behind : place n ns ≡ length ns = place-not_among n ns parts.1 in
    ap (λ (b : Bool). cond (not b) (1 + place n ns) 0) parts.0 ∙ omega arith

append_step : (n : ℕ) (ns more : List ℕ) (here : Bool) → (among n ns ≡ true → place n (ns ++ more) ≡ place n ns)
    → (here || among n ns) ≡ true → cond (not here) (1 + place n (ns ++ more)) 0 ≡ cond (not here) (1 + place n ns) 0
append_step n ns more true known h = refl
append_step n ns more false known h = ap (λ (k : ℕ). 1 + k) (known h)

pub place-append : (n : ℕ) (ns more : List ℕ) → among n ns ≡ true → place n (ns ++ more) ≡ place n ns
place-append n [] more h = absurd cc
place-append n (m ∷ ns) more h = append_step n ns more (nat_eq n m) (place-append n ns more) h

-- a new number stands last
pub place-new : (n : ℕ) (ns : List ℕ) → among n ns ≡ false → place n (ns ++ n ∷ []) ≡ length ns
place-new n [] h = ap (λ (b : Bool). cond (not b) (1 + 0) 0) (nat_eq-same n)
place-new n (m ∷ ns) h =
    let parts = or_parts (nat_eq n m) (among n ns) h in
    let behind : place n (ns ++ n ∷ []) ≡ length ns = place-new n ns parts.1 in
    ap (λ (b : Bool). cond (not b) (1 + place n (ns ++ n ∷ [])) 0) parts.0 ∙ omega arith

-- the place of a number among the first stays with one more
number_step : (k n : ℕ) (ns : List ℕ) (seen : Bool) → among n ns ≡ seen → among k ns ≡ true
    → place k (firsts (ns ++ n ∷ [])) ≡ place k (firsts ns)
number_step k n ns true e h = ap (place k) (firsts-seen n ns e)
number_step k n ns false e h = ap (place k) (firsts-new n ns e) ∙ place-append k (firsts ns) (n ∷ []) (among-firsts k ns ∙ h)

-- a number keeps its place with one more
pub number-stays : (k n : ℕ) (ns : List ℕ) → among k ns ≡ true
    → number_in k (firsts (ns ++ n ∷ [])) ≡ number_in k (firsts ns)
number-stays k n ns h = ap (λ (i : ℕ). i + 1) (number_step k n ns (among n ns) refl h)
