-- The plan that follows one choice at each set.
use Rattle.std.proofs.Common.{◌≡◌, ℕ, zero, suc, ◌+◌, ◌-◌, ◌≤◌, ◌<◌, eqb, cond, List, [], ◌∷◌, ◌++◌, map, zip, length, slice_index, All, arith, ap, sym, ◌∙◌}
use Rattle.std.proofs.Common.{refl, length-append, eq-eqb, ne_eqb, ⊎_elim}
use Rattle.std.specs.List.{range_with_len, AllZip}
use Rattle.std.proofs.lemmas.Bool.{cases_lt}
use Rattle.std.proofs.lemmas.Bool.Decides.{eqb_tells}
use Rattle.std.proofs.lemmas.List.{get_or_append_left, get_or-append-add, length-map, ext_get_or}
use Rattle.std.proofs.lemmas.List.FromFn.{length-range_with_len, get_or-map-range_with_len}
use Rattle.std.proofs.lemmas.List.Elements.{All-head, All-tail}
use Rattle.def_sums.specs.Sum.{nat_sum_over}
use Rattle.def_sums.proofs.Ranges.{All-range, range-All}
use Rattle.def_plan.specs.Form.{InformationSet, PlacedSet, placed_from, sequences_of, IsInOrder, AreInOrder}
use Rattle.def_plan.specs.Plan.{IsPlan, dealt_onto, DealsWhole, all_to, AreActions, chosen, FollowsChoices, pure_plan}
use Rattle.def_plan.proofs.Dealing.{dealt_onto-is_dealt, dealt-is_plan}

-- two tests that mean the same
same_test : (a b c d : ℕ) → (a ≡ b → c ≡ d) → (c ≡ d → a ≡ b) → eqb a b ≡ eqb c d
same_test a b c d to from =
    ⊎_elim (λ yes. yes.0 ∙ sym (eq-eqb c d (to yes.1))) (λ no. no.0 ∙ sym (ne_eqb c d (λ e. no.1 (from e)))) (eqb_tells a b)

-- the share of all_to is nothing before the chosen action, and all from it on
none_to : (a m choice n : ℕ) → choice < a
    → nat_sum_over (λ x. x) (map (λ s. cond (eqb s choice) n 0) (range_with_len a m)) ≡ 0
none_to a zero choice n h = refl
none_to a (suc m) choice n h =
    ap (λ b. cond b n 0 + nat_sum_over (λ x. x) (map (λ s. cond (eqb s choice) n 0) (range_with_len (a + 1) m))) (ne_eqb a choice (λ e. omega arith))
    ∙ omega (arith, none_to (a + 1) m choice n (omega arith))

all_from : (a m choice n : ℕ) → a ≤ choice → choice < a + m
    → nat_sum_over (λ x. x) (map (λ s. cond (eqb s choice) n 0) (range_with_len a m)) ≡ n
all_from a zero choice n low high = absurd (omega arith)
all_from a (suc m) choice n low high =
    ⊎_elim
    (λ yes. ap (λ b. cond b n 0 + nat_sum_over (λ x. x) (map (λ s. cond (eqb s choice) n 0) (range_with_len (a + 1) m))) yes.0
    ∙ omega (arith, none_to (a + 1) m choice n (omega (arith, yes.1))))
    (λ no. ap (λ b. cond b n 0 + nat_sum_over (λ x. x) (map (λ s. cond (eqb s choice) n 0) (range_with_len (a + 1) m))) no.0
    ∙ omega (arith, all_from (a + 1) m choice n (omega (arith, no.1)) (omega arith)))
    (eqb_tells a choice)

pub all_to-whole : (h : InformationSet) (choice : ℕ) → 1 ≤ choice → choice ≤ h.actions
    → DealsWhole h (all_to h.actions choice)
all_to-whole h choice low high = record {
  each_action = λ n. length-map (range_with_len 1 h.actions) (λ a. cond (eqb a choice) n 0) ∙ length-range_with_len 1 h.actions;
  adds_up = λ n. all_from 1 h.actions choice n low (omega arith);
}

abbrev rules_of : List InformationSet → List ℕ → List (ℕ → List ℕ)
rules_of sets choices = map (λ p. all_to p.0.actions p.1) (zip sets choices)

rules-whole : (sets : List InformationSet) (choices : List ℕ) → AreActions sets choices
    → AllZip DealsWhole sets (rules_of sets choices)
rules-whole [] [] h = h
rules-whole [] (c ∷ cs) h = elim h [ ]
rules-whole (g ∷ gs) [] h = elim h [ ]
rules-whole (g ∷ gs) (c ∷ cs) h = (all_to-whole g c h.0.0 h.0.1, rules-whole gs cs h.1)

-- one choice at each set makes a plan of root 1
pub pure_plan-is_plan : (sets : List InformationSet) (choices : List ℕ) → AreInOrder sets → AreActions sets choices
    → IsPlan sets 1 (pure_plan sets choices)
pure_plan-is_plan sets choices order are = dealt-is_plan 1 sets (rules_of sets choices) (omega arith) order (rules-whole sets choices are)

abbrev FollowsChoice : List ℕ → PlacedSet → ℕ → Type 0
FollowsChoice r h choice = All (λ s. slice_index r s ≡ cond (eqb s (chosen h choice)) (slice_index r h.before) 0) (sequences_of h)

follows : (first : ℕ) (x : List ℕ) (hs : List InformationSet) (choices : List ℕ) → length x ≡ first
    → All IsInOrder (placed_from first hs) → AreActions hs choices
    → AllZip (FollowsChoice (dealt_onto x hs (rules_of hs choices))) (placed_from first hs) choices
follows first x [] [] e order are = are
follows first x [] (c ∷ cs) e order are = elim are [ ]
follows first x (h ∷ hs) [] e order are = elim are [ ]
follows first x (h ∷ hs) (c ∷ cs) e order are =
    let here : PlacedSet = record { first = first; before = h.before; actions = h.actions } in
    let n : ℕ = slice_index x h.before in
    let x' : List ℕ = x ++ all_to h.actions c n in
    let r : List ℕ = dealt_onto x' hs (rules_of hs cs) in
    let whole = all_to-whole h c are.0.0 are.0.1 in
    let e' : length x' ≡ first + h.actions = omega (arith, length-append x (all_to h.actions c n), whole.each_action n) in
    let later = All-tail IsInOrder here (placed_from (first + h.actions) hs) order in
    let before : h.before < first = (All-head IsInOrder here (placed_from (first + h.actions) hs) order).1 in
    let rest = dealt_onto-is_dealt (first + h.actions) x' hs (rules_of hs cs) e' later (rules-whole hs cs are.1) in
    let had : n ≡ slice_index r h.before = sym (rest.kept h.before (omega arith) ∙ get_or_append_left x (all_to h.actions c n) 0 h.before (omega arith)) in
    let gives : (s : ℕ) → first ≤ s → s < first + h.actions → slice_index r s ≡ cond (eqb s (chosen here c)) (slice_index r h.before) 0 =
    λ s low high.
    let place : s ≡ length x + (s - first) = omega arith in
    rest.kept s high
    ∙ ap (λ k. slice_index x' k) place
    ∙ get_or-append-add x (all_to h.actions c n) (s - first) 0
    ∙ get_or-map-range_with_len (λ a. cond (eqb a c) n 0) 1 h.actions (s - first) (1 + (s - first)) 0 (omega arith) refl
    ∙ ap (λ b. cond b n 0) (same_test (1 + (s - first)) c s (chosen here c) (λ q. omega (arith, are.0.0)) (λ q. omega (arith, are.0.0)))
    ∙ ap (λ m. cond (eqb s (chosen here c)) m 0) had
    in (
      All-range (λ s. slice_index r s ≡ cond (eqb s (chosen here c)) (slice_index r h.before) 0) first h.actions gives,
      follows (first + h.actions) x' hs cs e' later are.1,
    )

-- the plan of some choices gives each chosen sequence all, and the others of its set nothing
pub pure_plan-follows : (sets : List InformationSet) (choices : List ℕ) → AreInOrder sets → AreActions sets choices
    → FollowsChoices sets choices (pure_plan sets choices)
pure_plan-follows sets choices order are = follows 1 (1 ∷ []) sets choices refl order are

-- two lists that follow the same choices from the same beginning are the same
agree : (first : ℕ) (x y : List ℕ) (hs : List InformationSet) (choices : List ℕ) → All IsInOrder (placed_from first hs)
    → AllZip (FollowsChoice x) (placed_from first hs) choices → AllZip (FollowsChoice y) (placed_from first hs) choices
    → ((s : ℕ) → s < first → slice_index x s ≡ slice_index y s) → (s : ℕ) → s < first + nat_sum_over (λ h. h.actions) hs
    → slice_index x s ≡ slice_index y s
agree first x y [] choices order f g h s low = h s (omega arith)
agree first x y (a ∷ hs) [] order f g h s low = elim f [ ]
agree first x y (a ∷ hs) (c ∷ cs) order f g h s low =
    let here : PlacedSet = record { first = first; before = a.before; actions = a.actions } in
    let rest = placed_from (first + a.actions) hs in
    let before = h a.before (All-head IsInOrder here rest order).1 in
    agree (first + a.actions) x y hs cs (All-tail IsInOrder here rest order) f.1 g.1
    (λ t less. ⊎_elim (λ earlier. h t earlier)
    (λ at. range-All (λ s. slice_index x s ≡ cond (eqb s (chosen here c)) (slice_index x a.before) 0) first a.actions f.0 t at less
    ∙ ap (λ m. cond (eqb t (chosen here c)) m 0) before
    ∙ sym (range-All (λ s. slice_index y s ≡ cond (eqb s (chosen here c)) (slice_index y a.before) 0) first a.actions g.0 t at less))
    (cases_lt t first))
    s (omega arith)

-- a plan of root 1 that follows the choices is the one that they make
pub pure_plan-only : (sets : List InformationSet) (choices plan : List ℕ) → AreInOrder sets → AreActions sets choices
    → IsPlan sets 1 plan → FollowsChoices sets choices plan → plan ≡ pure_plan sets choices
pure_plan-only sets choices plan order are p f =
    let q = pure_plan-is_plan sets choices order are in
    ext_get_or 0 plan (pure_plan sets choices) (p.all_sequences ∙ sym q.all_sequences)
    (λ s low. agree 1 plan (pure_plan sets choices) sets choices order f (pure_plan-follows sets choices order are)
    (λ t first. let none : t ≡ 0 = omega arith in ap (λ k. slice_index plan k) none ∙ p.root_weight
    ∙ sym (ap (λ k. slice_index (pure_plan sets choices) k) none ∙ q.root_weight))
    s (omega (arith, p.all_sequences)))
