-- A set's place among the sets of its player.
use Rattle.std.proofs.Common.{◌≡◌, ℕ, zero, suc, ◌+◌, ◌<◌, ◌≤◌, List, [], ◌∷◌, length, get_or, slice_get, slice_index, Some, take, map, ap, sym, subst, ◌∙◌}
use Rattle.std.proofs.Common.{arith}
use Rattle.std.proofs.lemmas.List.{take_more}
use Rattle.std.proofs.lemmas.List.Elements.{All-get_or}
use Rattle.std.proofs.lemmas.Option.{get_or_from_slice_get}
use Rattle.def_sums.specs.Sum.{nat_sum_over}
use Rattle.def_sums.proofs.SumLaws.{nat_sum_over-append}
use Rattle.def_plan.specs.Form.{InformationSet, PlacedSet, placed, sequences_of, sequence_count, IsInOrder, AreInOrder}
use Rattle.def_plan.proofs.BadSets.{length-placed}
use Rattle.def_plan.proofs.Places.{numbered}
use Rattle.def_round.specs.Play.{GivesAllUnits, units}
use Rattle.xg_seq.specs.Table.{placed_of_row}
use Rattle.xg_seq.specs.declared.table.SetPlace.{SetPlace}
use Rattle.xg_plan.proofs.PlaceLemmas.{all_places, no_place, no_information_set}

-- the first sequence of the set at place k
abbrev pub start_of : List InformationSet → ℕ → ℕ
start_of sets k = sequence_count (take k sets)

start_more : (sets : List InformationSet) (m : ℕ) → m < length sets
    → start_of sets (m + 1) ≡ start_of sets m + (get_or sets m no_information_set).actions
start_more sets m below =
    omega (
      arith,
      ap (nat_sum_over (λ s. s.actions)) (take_more sets m no_information_set below),
      nat_sum_over-append (λ s. s.actions) (take m sets) (get_or sets m no_information_set ∷ []),
    )

front : (sets : List InformationSet) (m : ℕ)
    → nat_sum_over (λ s. s.actions) (take m sets) ≤ nat_sum_over (λ s. s.actions) sets
front sets zero = omega arith
front [] (suc m) = omega arith
front (h ∷ hs) (suc m) = omega (arith, front hs m)

pub start_within : (sets : List InformationSet) (m : ℕ) → start_of sets m ≤ sequence_count sets
start_within sets m = omega (arith, front sets m)

-- the set at place m: its sequences are those from the m sets before on
pub record IsAt (sets : List InformationSet) (m : ℕ) (h : PlacedSet) : Type 0 where
  pub there : m < length (placed sets)
  pub is : get_or (placed sets) m no_place ≡ h
  pub actions : h.actions ≡ (get_or sets m no_information_set).actions
  pub first : h.first ≡ start_of sets m
  pub next : start_of sets (m + 1) ≡ h.first + h.actions
  pub inside : h.first + h.actions ≤ sequence_count sets
  pub earlier : h.before < h.first
  pub some : 1 ≤ h.actions

-- where sets are in order, what is read at place m of the placed ones is the set at place m
pub is_at : (sets : List InformationSet) (m : ℕ) (h : PlacedSet) → AreInOrder sets → m < length sets
    → slice_get (placed sets) m ≡ Some h → IsAt sets m h
is_at sets m h order below read =
    let there : m < length (placed sets) = omega (arith, length-placed 1 sets) in
    let is : get_or (placed sets) m no_place ≡ h = get_or_from_slice_get (placed sets) m h no_place read in
    let numbers = sym is ∙ numbered.each_set sets m no_place no_information_set below in
    let in_order : IsInOrder h = subst IsInOrder is (All-get_or IsInOrder (placed sets) m no_place there order) in
    let first : h.first ≡ start_of sets m = ap (λ (p : PlacedSet). p.first) numbers in
    let actions : h.actions ≡ (get_or sets m no_information_set).actions = ap (λ (p : PlacedSet). p.actions) numbers in
    let next : start_of sets (m + 1) ≡ h.first + h.actions = omega (arith, start_more sets m below, first, actions) in
    record {
      there = there;
      is = is;
      actions = actions;
      first = first;
      next = next;
      inside = omega (arith, next, start_within sets (m + 1));
      earlier = in_order.1;
      some = in_order.0;
    }

-- and so is what is read at place m of a form's places
pub row_at : (sets : List InformationSet) (rows : List SetPlace) (m : ℕ) (row : SetPlace) → AreInOrder sets → m < length rows
    → map placed_of_row rows ≡ placed sets → slice_get (map placed_of_row rows) m ≡ Some (placed_of_row row)
    → IsAt sets m (placed_of_row row)
row_at sets rows m row order below are read =
    is_at sets m (placed_of_row row) order (omega (arith, below, all_places sets rows are)) (ap (λ hs. slice_get hs m) (sym are) ∙ read)

-- at the set a play gives out all units
pub units_at : (play : List ℕ) (sets : List InformationSet) (m : ℕ) (h : PlacedSet) → IsAt sets m h
    → GivesAllUnits play sets → nat_sum_over (λ s. slice_index play s) (sequences_of h) ≡ units
units_at play sets m h at all_units =
    subst (λ (p : PlacedSet). nat_sum_over (λ s. slice_index play s) (sequences_of p) ≡ units) at.is (all_units m no_place at.there)
