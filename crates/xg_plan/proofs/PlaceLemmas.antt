-- Where a set's sequences stand, from what a form tells of the set.
use Rattle.std.proofs.Common.{◌≡◌, ℕ, zero, suc, ◌+◌, ◌-◌, ◌<◌, ◌≤◌, List, [], ◌∷◌, length, get_or, take, drop, map, ap, sym, ◌∙◌, arith, Some, slice_get}
use Rattle.std.proofs.Common.{slice_index}
use Rattle.std.specs.List.{range_with_len}
use Rattle.std.proofs.Math.Seq.{take-append_seam}
use Rattle.std.proofs.lemmas.List.{length-map, take_more}
use Rattle.std.proofs.lemmas.List.FromFn.{length-map-range_with_len}
use Rattle.std.proofs.lemmas.Option.{get_or_from_slice_get}
use Rattle.def_sums.proofs.SumLaws.{nat_sum_over-append}
use Rattle.def_plan.specs.Form.{AreInOrder, InformationSet, IsInOrder, PlacedSet, placed, sequence_count}
use Rattle.def_plan.proofs.BadSets.{length-placed}
use Rattle.def_plan.proofs.Places.{total_actions, at-placed}
use Rattle.def_round.proofs.Blocks.{drop-range}
use Rattle.xg_seq.specs.declared.table.SetPlace.{SetPlace}
use Rattle.xg_seq.specs.Table.{placed_of_row}
use Rattle.xg_seq.proofs.RowLemmas.{placed_in_order, placed_inside}

abbrev pub no_place : PlacedSet
no_place = record { first = 0; before = 0; actions = 0 }

abbrev pub no_information_set : InformationSet
no_information_set = record { before = 0; actions = 0 }

-- the number of the first sequence at set k, counted from 0, or of the next one after all
abbrev pub first_of : List InformationSet → ℕ → ℕ
first_of sets k = 1 + total_actions (take k sets)

-- the sets before a place have together no more actions than those before a later one
pub few_before : (hs : List InformationSet) (i j : ℕ) → i ≤ j → total_actions (take i hs) ≤ total_actions (take j hs)
few_before hs zero j h = omega arith
few_before [] (suc i) (suc j) h = omega arith
few_before [] (suc i) zero h = omega arith
few_before (g ∷ gs) (suc i) zero h = absurd (omega arith)
few_before (g ∷ gs) (suc i) (suc j) h = omega (arith, few_before gs i j (omega arith))

-- set k in its place
pub record SetAt (sets : List InformationSet) (k : ℕ) (h : PlacedSet) : Type 0 where
  pub first : h.first ≡ first_of sets k
  pub next : first_of sets (k + 1) ≡ h.first + h.actions
  pub some : 1 ≤ h.actions
  pub earlier : h.before < h.first

-- where sets are in order, set k has an action, and its sequences come right behind those of the sets before
pub set_at : (sets : List InformationSet) (k : ℕ) (d : PlacedSet) → AreInOrder sets → k < length sets
    → SetAt sets k (get_or (placed sets) k d)
set_at sets k d order below =
    let is = at-placed 1 sets k d no_information_set below in
    let ordered = order k d (omega (arith, length-placed 1 sets)) in
    let more : total_actions (take (k + 1) sets) ≡ total_actions (take k sets) + (get_or sets k no_information_set).actions =
    ap total_actions (take_more sets k no_information_set below) ∙ nat_sum_over-append (λ (h : InformationSet). h.actions) (take k sets)
    (get_or sets k no_information_set ∷ []) ∙ omega arith in
    record {
      first = ap (λ (h : PlacedSet). h.first) is;
      next = omega (arith, more, ap (λ (h : PlacedSet). h.first) is, ap (λ (h : PlacedSet). h.actions) is);
      some = ordered.0;
      earlier = ordered.1;
    }

-- what a form tells of a set
pub record IsPlacedAs (sets : List InformationSet) (k first actions before : ℕ) : Type 0 where
  pub is : (d : PlacedSet) → get_or (placed sets) k d ≡ record { first = first; before = before; actions = actions }
  pub inside : first + actions ≤ sequence_count sets
  pub some : 1 ≤ actions
  pub earlier : before < first

-- the place that a form tells of set k
pub is_placed_as : (sets : List InformationSet) (k first actions before : ℕ)
    → slice_get (placed sets) k ≡ Some (record { first = first; before = before; actions = actions })
    → first + actions ≤ sequence_count sets → 1 ≤ actions → before < first → IsPlacedAs sets k first actions before
is_placed_as sets k first actions before place inside some earlier = record {
  is = λ d. get_or_from_slice_get (placed sets) k (record { first = first; before = before; actions = actions }) d place;
  inside = inside;
  some = some;
  earlier = earlier;
}

-- and where sets are in order, what stands among the placed ones
pub placed_at : (sets : List InformationSet) (k : ℕ) (h : PlacedSet) → AreInOrder sets
    → slice_get (placed sets) k ≡ Some h → IsPlacedAs sets k h.first h.actions h.before
placed_at sets k h order place =
    let in_order : IsInOrder h = placed_in_order sets k h order place in
    is_placed_as sets k h.first h.actions h.before place (placed_inside sets k h place) in_order.0 in_order.1

-- there are as many places as sets
pub all_places : (sets : List InformationSet) (places : List SetPlace) → map placed_of_row places ≡ placed sets
    → length places ≡ length sets
all_places sets places are = sym (length-map places placed_of_row) ∙ ap length are ∙ length-placed 1 sets

-- and what is read at set k is its place
pub place_read : (sets : List InformationSet) (places : List SetPlace) (k : ℕ) (place : SetPlace) → AreInOrder sets
    → map placed_of_row places ≡ placed sets → slice_get (map placed_of_row places) k ≡ Some (placed_of_row place)
    → IsPlacedAs sets k place.first place.actions place.before
place_read sets places k place order are read =
    placed_at sets k (placed_of_row place) order (ap (λ hs. slice_get hs k) (sym are) ∙ read)

-- a part of a list, read number by number
pub part_is : (xs : List ℕ) (first n : ℕ) → first + n ≤ length xs
    → take (first + n - first) (drop first xs) ≡ map (λ s. slice_index xs s) (range_with_len first n)
part_is xs first n inside =
    let block : List ℕ = map (λ s. slice_index xs s) (range_with_len first n) in
    let long : first + n - first ≡ length block = omega (arith, length-map-range_with_len (λ s. slice_index xs s) first n) in
    ap (λ m. take m (drop first xs)) long ∙ ap (take (length block)) (drop-range xs 0 first n inside) ∙ take-append_seam block (drop (first + n) xs)
