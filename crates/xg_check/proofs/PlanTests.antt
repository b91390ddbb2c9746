-- How many numbers each set of a printed plan has.
use Rattle.std.proofs.Common.{◌≡◌, ◌≢◌, ℕ, ◌+◌, ◌-◌, ◌<◌, ◌≤◌, Bool, true, false, cond, eqb, List, [], ◌∷◌, length, get_or, slice_index, drop, map, Option}
use Rattle.std.proofs.Common.{Some, None, slice_get, All, refl, sym, ap, ◌∙◌, arith, eqb-true, eq-eqb, ne_eqb}
use Rattle.std.proofs.lemmas.List.{drop_more, drop_all, get_or-map, length-append}
use Rattle.std.proofs.lemmas.List.Elements.{All-append, All-cons, All-head, All-nil, All-tail}
use Rattle.std.proofs.lemmas.Option.{get_or_from_slice_get}
use Rattle.def_sums.specs.Sum.{nat_sum_over}
use Rattle.def_sums.specs.Limits.{most_root}
use Rattle.def_plan.specs.Form.{InformationSet, sequence_count}
use Rattle.def_plan.proofs.SizeLaws.{slice_index-at_most}
use Rattle.def_cert_verdict.specs.Ranges.{PlanFits, PlanWeightsFit}
use Rattle.def_cert_verdict.specs.Certificate.{PrintedPlan, joined, printed_numbers}
use Rattle.def_cert_verdict.specs.Verdict.{first_of_other_size}
use Rattle.xg_plan.proofs.PlaceLemmas.{no_information_set}

-- a set's number of numbers and its number of actions, as they are answered
size_is : (weights : List (List ℕ)) (i : ℕ) (ws : List ℕ) → ws ≡ get_or weights (i + 1 - 1) []
    → get_or weights i [] ≡ ws
size_is weights i ws e = let same : i + 1 - 1 ≡ i = omega arith in ap (λ j. get_or weights j []) (sym same) ∙ sym e

actions_are : (sets : List InformationSet) (i n : ℕ) (d : InformationSet) → i < length sets
    → slice_get (map (λ (h : InformationSet). h.actions) sets) (i + 1 - 1) ≡ Some n → (get_or sets i d).actions ≡ n
actions_are sets i n d low e =
    let same : i + 1 - 1 ≡ i = omega arith in
    sym (get_or-map (λ (h : InformationSet). h.actions) sets i d 0 low)
    ∙ get_or_from_slice_get (map (λ (h : InformationSet). h.actions) sets) i n 0 (ap (slice_get (map (λ (h : InformationSet). h.actions) sets)) (sym same) ∙ e)

-- one set more
next_size : (sets : List InformationSet) (weights : List (List ℕ)) (i : ℕ) (ws : List ℕ) (n : ℕ) → i < length sets
    → i < length weights → ws ≡ get_or weights (i + 1 - 1) []
    → slice_get (map (λ (h : InformationSet). h.actions) sets) (i + 1 - 1) ≡ Some n
    → first_of_other_size (i + 1) (drop i sets) (drop i weights)
    ≡ cond (eqb (length ws) n) (first_of_other_size (i + 1 + 1) (drop (i + 1) sets) (drop (i + 1) weights)) (Some (i + 1))
next_size sets weights i ws n low low' is has =
    let rest = first_of_other_size (i + 1 + 1) (drop (i + 1) sets) (drop (i + 1) weights) in
    ap (λ hs. first_of_other_size (i + 1) hs (drop i weights)) (drop_more sets i no_information_set low)
    ∙ ap (λ wss. first_of_other_size (i + 1) (get_or sets i no_information_set ∷ drop (i + 1) sets) wss) (drop_more weights i [] low')
    ∙ ap (λ m. cond (eqb (length (get_or weights i [])) m) rest (Some (i + 1))) (actions_are sets i n no_information_set low has)
    ∙ ap (λ ys. cond (eqb (length ys) n) rest (Some (i + 1))) (size_is weights i ws is)

-- a set that has not as many numbers as actions is the first of other size from its place on
pub size_differs : (sets : List InformationSet) (weights : List (List ℕ)) (i : ℕ) (ws : List ℕ) (n : ℕ)
    → i < length sets
    → i < length weights → ws ≡ get_or weights (i + 1 - 1) []
    → slice_get (map (λ (h : InformationSet). h.actions) sets) (i + 1 - 1) ≡ Some n → length ws ≢ n
    → first_of_other_size (i + 1) (drop i sets) (drop i weights) ≡ Some (i + 1)
size_differs sets weights i ws n low low' is has other =
    let rest = first_of_other_size (i + 1 + 1) (drop (i + 1) sets) (drop (i + 1) weights) in
    next_size sets weights i ws n low low' is has ∙ ap (λ b. cond b rest (Some (i + 1))) (ne_eqb (length ws) n other)

-- where a set has as many numbers as actions, the first of other size from it on is the first behind it
pub size_agrees : (sets : List InformationSet) (weights : List (List ℕ)) (i : ℕ) (ws : List ℕ) (n : ℕ) → i < length sets
    → i < length weights → ws ≡ get_or weights (i + 1 - 1) []
    → slice_get (map (λ (h : InformationSet). h.actions) sets) (i + 1 - 1) ≡ Some n → length ws ≡ n
    → first_of_other_size (i + 1) (drop i sets) (drop i weights)
    ≡ first_of_other_size (i + 1 + 1) (drop (i + 1) sets) (drop (i + 1) weights)
size_agrees sets weights i ws n low low' is has same =
    let rest = first_of_other_size (i + 1 + 1) (drop (i + 1) sets) (drop (i + 1) weights) in
    next_size sets weights i ws n low low' is has ∙ ap (λ b. cond b rest (Some (i + 1))) (eq-eqb (length ws) n same)

-- past the last set and the last row of numbers there is none of other size
pub no_size_left : (k i : ℕ) (sets : List InformationSet) (weights : List (List ℕ)) → length sets ≤ i
    → length weights ≤ i
    → first_of_other_size k (drop i sets) (drop i weights) ≡ None
no_size_left k i sets weights le le' =
    ap (λ hs. first_of_other_size k hs (drop i weights)) (drop_all i sets le)
    ∙ ap (λ wss. first_of_other_size k [] wss) (drop_all i weights le')

-- ---- where each set has its actions' numbers there is one for each sequence
agree : (b : Bool) (rest : Option ℕ) (k : ℕ) → cond b rest (Some k) ≡ None → (b ≡ true) × (rest ≡ None)
agree true rest k e = (refl, e)
agree false rest k e = absurd cc

joined_count : (k : ℕ) (sets : List InformationSet) (weights : List (List ℕ))
    → first_of_other_size k sets weights ≡ None
    → length (joined weights) ≡ nat_sum_over (λ (h : InformationSet). h.actions) sets
joined_count k [] [] e = refl
joined_count k [] (ws ∷ wss) e = absurd cc
joined_count k (h ∷ hs) [] e = absurd cc
joined_count k (h ∷ hs) (ws ∷ wss) e =
    let here = agree (eqb (length ws) h.actions) (first_of_other_size (k + 1) hs wss) k e in
    omega (arith, length-append ws (joined wss), eqb-true (length ws) h.actions here.0, joined_count (k + 1) hs wss here.1)

-- where each set has as many numbers as actions, a printed plan has a number for each sequence
pub has_each_sequence : (sets : List InformationSet) (plan : PrintedPlan)
    → first_of_other_size 1 sets plan.weights ≡ None
    → length (printed_numbers plan) ≡ sequence_count sets
has_each_sequence sets plan e = omega (arith, joined_count 1 sets plan.weights e)

-- ---- the numbers of a plan within its ranges
joined_small : (wss : List (List ℕ)) → All PlanWeightsFit wss → All (λ n. n ≤ most_root) (joined wss)
joined_small [] f = All-nil (λ n. n ≤ most_root)
joined_small (ws ∷ wss) f =
    All-append (λ n. n ≤ most_root) ws (joined wss) (All-head PlanWeightsFit ws wss f).each (joined_small wss (All-tail PlanWeightsFit ws wss f))

-- no number of a printed plan within its ranges is above the greatest root
pub numbers_small : (sets : ℕ) (plan : PrintedPlan) → PlanFits sets plan → (s : ℕ)
    → slice_index (printed_numbers plan) s ≤ most_root
numbers_small sets plan fits s =
    slice_index-at_most most_root (printed_numbers plan) (All-cons (λ n. n ≤ most_root) plan.root (joined plan.weights) fits.root.1
    (joined_small plan.weights fits.each)) s
