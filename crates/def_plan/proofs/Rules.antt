-- A dealt plan follows its rules, and alone does.
use Rattle.std.proofs.Common.{◌≡◌, ℕ, ◌+◌, ◌-◌, ◌≤◌, ◌<◌, List, [], ◌∷◌, ◌++◌, map, length, slice_index, get_or, All, arith, ap, sym, ◌∙◌, refl, ⊎_elim}
use Rattle.std.proofs.Common.{length-append}
use Rattle.std.specs.List.{range_with_len, AllZip}
use Rattle.std.proofs.lemmas.Bool.{cases_lt}
use Rattle.std.proofs.lemmas.List.{get_or_append_left, get_or-append-add, ext_get_or}
use Rattle.std.proofs.lemmas.List.FromFn.{get_or-map-range_with_len, length-map-range_with_len}
use Rattle.std.proofs.lemmas.List.Elements.{All-head, All-tail}
use Rattle.def_sums.specs.Sum.{nat_sum_over}
use Rattle.def_plan.specs.Form.{InformationSet, PlacedSet, placed_from, sequences_of, IsInOrder, AreInOrder}
use Rattle.def_plan.specs.Plan.{IsPlan, dealt_onto, dealt, DealsWhole, FollowsRules}
use Rattle.def_plan.proofs.Dealing.{dealt_onto-is_dealt}

abbrev FollowsRule : List ℕ → PlacedSet → (ℕ → List ℕ) → Type 0
FollowsRule x h rule = map (λ s. slice_index x s) (sequences_of h) ≡ rule (slice_index x h.before)

-- the places of a list, read one after the other
read : (f : ℕ → ℕ) (a n : ℕ) (ys : List ℕ) → length ys ≡ n → ((i : ℕ) → i < n → f (a + i) ≡ get_or ys i 0)
    → map f (range_with_len a n) ≡ ys
read f a n ys e h =
    ext_get_or 0 (map f (range_with_len a n)) ys (length-map-range_with_len f a n ∙ sym e)
    (λ i low. let less : i < n = omega (arith, length-map-range_with_len f a n) in get_or-map-range_with_len f a n i (a + i) 0 less refl ∙ h i less)

follows : (first : ℕ) (x : List ℕ) (hs : List InformationSet) (rules : List (ℕ → List ℕ)) → length x ≡ first
    → All IsInOrder (placed_from first hs) → AllZip DealsWhole hs rules
    → AllZip (FollowsRule (dealt_onto x hs rules)) (placed_from first hs) rules
follows first x [] [] e order whole = whole
follows first x [] (rule ∷ rules) e order whole = elim whole [ ]
follows first x (h ∷ hs) [] e order whole = elim whole [ ]
follows first x (h ∷ hs) (rule ∷ rules) e order whole =
    let here : PlacedSet = record { first = first; before = h.before; actions = h.actions } in
    let n : ℕ = slice_index x h.before in
    let x' : List ℕ = x ++ rule n in
    let r : List ℕ = dealt_onto x' hs rules in
    let parts : length (rule n) ≡ h.actions = whole.0.each_action n in
    let e' : length x' ≡ first + h.actions = omega (arith, length-append x (rule n)) in
    let later = All-tail IsInOrder here (placed_from (first + h.actions) hs) order in
    let before : h.before < first = (All-head IsInOrder here (placed_from (first + h.actions) hs) order).1 in
    let rest = dealt_onto-is_dealt (first + h.actions) x' hs rules e' later whole.1 in
    let had : slice_index r h.before ≡ n = rest.kept h.before (omega arith) ∙ get_or_append_left x (rule n) 0 h.before (omega arith) in
    let made : map (λ s. slice_index r s) (sequences_of here) ≡ rule n =
    read (λ s. slice_index r s) first h.actions (rule n) parts
    (λ i low. rest.kept (first + i) (omega arith) ∙ ap (λ k. slice_index x' (k + i)) (sym e) ∙ get_or-append-add x (rule n) i 0)
    in
    (made ∙ ap rule (sym had), follows (first + h.actions) x' hs rules e' later whole.1)

-- a dealt plan follows the rules that it is dealt by
pub dealt-follows : (sets : List InformationSet) (root : ℕ) (rules : List (ℕ → List ℕ)) → AreInOrder sets
    → AllZip DealsWhole sets rules → FollowsRules sets rules (dealt root sets rules)
dealt-follows sets root rules order whole = follows 1 (root ∷ []) sets rules refl order whole

-- two lists that follow the same rules from the same beginning are the same
agree : (first : ℕ) (x y : List ℕ) (hs : List InformationSet) (rules : List (ℕ → List ℕ))
    → All IsInOrder (placed_from first hs) → AllZip (FollowsRule x) (placed_from first hs) rules
    → AllZip (FollowsRule y) (placed_from first hs) rules
    → ((s : ℕ) → s < first → slice_index x s ≡ slice_index y s) → (s : ℕ) → s < first + nat_sum_over (λ h. h.actions) hs
    → slice_index x s ≡ slice_index y s
agree first x y [] rules order f g h s low = h s (omega arith)
agree first x y (a ∷ hs) [] order f g h s low = elim f [ ]
agree first x y (a ∷ hs) (rule ∷ rules) order f g h s low =
    let here : PlacedSet = record { first = first; before = a.before; actions = a.actions } in
    let rest = placed_from (first + a.actions) hs in
    let before = h a.before (All-head IsInOrder here rest order).1 in
    let numbers : map (λ s. slice_index x s) (sequences_of here) ≡ map (λ s. slice_index y s) (sequences_of here) = f.0 ∙ ap rule before ∙ sym g.0 in
    let at : (t : ℕ) → first ≤ t → t < first + a.actions → slice_index x t ≡ slice_index y t =
    λ t le less.
    sym (get_or-map-range_with_len (λ s. slice_index x s) first a.actions (t - first) t 0 (omega arith) (omega arith))
    ∙ ap (λ xs. get_or xs (t - first) 0) numbers
    ∙ get_or-map-range_with_len (λ s. slice_index y s) first a.actions (t - first) t 0 (omega arith) (omega arith)
    in
    agree (first + a.actions) x y hs rules (All-tail IsInOrder here rest order) f.1 g.1
    (λ t less. ⊎_elim (λ earlier. h t earlier) (λ le. at t le less) (cases_lt t first))
    s (omega arith)

-- a plan of the same root that follows the rules is the dealt one
pub dealt-only : (sets : List InformationSet) (root : ℕ) (rules : List (ℕ → List ℕ)) (plan : List ℕ) → AreInOrder sets
    → AllZip DealsWhole sets rules → IsPlan sets root plan → FollowsRules sets rules plan → plan ≡ dealt root sets rules
dealt-only sets root rules plan order whole p f =
    let made = dealt_onto-is_dealt 1 (root ∷ []) sets rules refl order whole in
    ext_get_or 0 plan (dealt root sets rules) (p.all_sequences ∙ sym made.long)
    (λ s low. agree 1 plan (dealt root sets rules) sets rules order f (dealt-follows sets root rules order whole)
    (λ t first. let none : t ≡ 0 = omega arith in ap (λ k. slice_index plan k) none ∙ p.root_weight
    ∙ sym (ap (λ k. slice_index (dealt root sets rules) k) none ∙ made.kept 0 (omega arith)))
    s (omega (arith, p.all_sequences)))
