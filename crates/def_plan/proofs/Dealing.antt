-- What dealing set after set makes.
use Rattle.std.proofs.Common.{◌≡◌, ℕ, ◌+◌, ◌≤◌, ◌<◌, List, [], ◌∷◌, ◌++◌, length, slice_index, All, arith, ap, sym, ◌∙◌, refl, length-append}
use Rattle.std.specs.List.{range_with_len, AllZip}
use Rattle.std.proofs.lemmas.List.{get_or_append_left}
use Rattle.std.proofs.lemmas.List.Elements.{All-head, All-tail, All-cons, All-nil}
use Rattle.def_sums.specs.Sum.{nat_sum_over}
use Rattle.def_sums.proofs.SumLaws.{nat_sum_over-same}
use Rattle.def_sums.proofs.Ranges.{All-range, nat_sum_over-places}
use Rattle.def_plan.specs.Form.{InformationSet, PlacedSet, placed_from, sequences_of, IsInOrder, AreInOrder}
use Rattle.def_plan.specs.Plan.{AddsUp, IsPlan, dealt_onto, dealt, DealsWhole}

-- r is what dealing hs onto x makes, where x has `first` numbers
pub record IsDealt (first : ℕ) (x : List ℕ) (hs : List InformationSet) (r : List ℕ) : Type 0 where
  pub long : length r ≡ first + nat_sum_over (λ h. h.actions) hs
  pub kept : (s : ℕ) → s < first → slice_index r s ≡ slice_index x s
  pub sums : All (AddsUp r) (placed_from first hs)

-- dealing keeps the numbers that are there, and those that it adds at each set add up
pub dealt_onto-is_dealt : (first : ℕ) (x : List ℕ) (hs : List InformationSet) (rules : List (ℕ → List ℕ))
    → length x ≡ first → All IsInOrder (placed_from first hs) → AllZip DealsWhole hs rules
    → IsDealt first x hs (dealt_onto x hs rules)
dealt_onto-is_dealt first x [] rules e order whole = record {
  long = omega arith;
  kept = λ s below. refl;
  sums = All-nil (AddsUp x);
}
dealt_onto-is_dealt first x (h ∷ hs) [] e order whole = elim whole [ ]
dealt_onto-is_dealt first x (h ∷ hs) (rule ∷ rules) e order whole =
    let n : ℕ = slice_index x h.before in
    let here : PlacedSet = record { first = first; before = h.before; actions = h.actions } in
    let x' : List ℕ = x ++ rule n in
    let parts : length (rule n) ≡ h.actions = whole.0.each_action n in
    let e' : length x' ≡ first + h.actions = omega (arith, length-append x (rule n)) in
    let r : List ℕ = dealt_onto x' hs rules in
    let rest = dealt_onto-is_dealt (first + h.actions) x' hs rules e' (All-tail IsInOrder here (placed_from (first + h.actions) hs) order) whole.1 in
    let before : h.before < first = (All-head IsInOrder here (placed_from (first + h.actions) hs) order).1 in
    let stays : (s : ℕ) → s < first → slice_index r s ≡ slice_index x s =
    λ s below. rest.kept s (omega arith) ∙ get_or_append_left x (rule n) 0 s (omega arith)
    in
    let at_here : AddsUp r here =
    nat_sum_over-same (λ s. slice_index r s) (λ s. slice_index x' s) (sequences_of here)
    (All-range (λ s. slice_index r s ≡ slice_index x' s) first h.actions (λ s low high. rest.kept s high))
    ∙ ap (λ k. nat_sum_over (λ s. slice_index x' s) (range_with_len first k)) (sym parts)
    ∙ nat_sum_over-places x (rule n) first e
    ∙ whole.0.adds_up n
    ∙ sym (stays h.before before)
    in
    record {
      long = omega (arith, rest.long);
      kept = stays;
      sums = All-cons (AddsUp r) here (placed_from (first + h.actions) hs) at_here rest.sums;
    }

-- rules that deal each number whole make a plan of the root that they begin with
pub dealt-is_plan : (root : ℕ) (sets : List InformationSet) (rules : List (ℕ → List ℕ)) → 1 ≤ root → AreInOrder sets
    → AllZip DealsWhole sets rules → IsPlan sets root (dealt root sets rules)
dealt-is_plan root sets rules some order whole =
    let d = dealt_onto-is_dealt 1 (root ∷ []) sets rules refl order whole in
    record {
      all_sequences = d.long;
      some_root = some;
      root_weight = d.kept 0 (omega arith);
      each_set = d.sums;
    }
