-- Rows that are placed in turn: what they tell of each set, and how one more is placed.
use Rattle.std.proofs.Common.{◌≡◌, ℕ, zero, suc, ◌+◌, ◌-◌, ◌<◌, ◌≤◌, List, [], ◌∷◌, ◌++◌, All, length, get_or, take, drop, map, refl, ap, sym, subst, ◌∙◌}
use Rattle.std.proofs.Common.{arith, Some, slice_get, take-append-drop}
use Rattle.std.specs.Option.{option_map}
use Rattle.std.proofs.lemmas.List.{get_or-map, length-map, map-append, take_more}
use Rattle.std.proofs.lemmas.List.Elements.{All-head, All-tail}
use Rattle.std.proofs.lemmas.Option.{get_or_from_slice_get, slice_get-map, slice_get_read, slice_get_within}
use Rattle.def_sums.proofs.SumLaws.{nat_sum_over-append}
use Rattle.def_plan.specs.Form.{AreInOrder, InformationSet, IsInOrder, PlacedSet, placed, placed_from, sequence_count}
use Rattle.def_plan.proofs.Places.{total_actions}
use Rattle.xg_seq.specs.declared.table.SetPlace.{SetPlace}
use Rattle.xg_seq.specs.Table.{HaveFewActions, KeepsSets, most_sequences, set_numbers_from, placed_of_row, set_of_row}

abbrev without_place : PlacedSet → InformationSet
without_place h = record { before = h.before; actions = h.actions }

placed-without : (first : ℕ) (sets : List InformationSet) → map without_place (placed_from first sets) ≡ sets
placed-without first [] = refl
placed-without first (h ∷ hs) = ap (λ gs. h ∷ gs) (placed-without (first + h.actions) hs)

rows-without : (rows : List SetPlace) → map without_place (map placed_of_row rows) ≡ map set_of_row rows
rows-without [] = refl
rows-without (row ∷ rows) = ap (λ gs. set_of_row row ∷ gs) (rows-without rows)

-- rows that are placed as some sets are have these sets
pub sets_of_rows : (rows : List SetPlace) (sets : List InformationSet) → map placed_of_row rows ≡ placed sets
    → map set_of_row rows ≡ sets
sets_of_rows rows sets same = sym (rows-without rows) ∙ ap (map without_place) same ∙ placed-without 1 sets

-- such rows, with the numbers of their sequences' sets, are kept
pub keeps_sets : (rows : List SetPlace) (numbers : List ℕ) (sets : List InformationSet)
    → map placed_of_row rows ≡ placed sets → numbers ≡ set_numbers_from 1 rows → AreInOrder sets
    → sequence_count sets ≤ most_sequences → HaveFewActions sets → KeepsSets rows numbers
keeps_sets rows numbers sets same are order limit few =
    let sets_are : map set_of_row rows ≡ sets = sets_of_rows rows sets same in
    record {
      places = same ∙ ap placed (sym sets_are);
      numbers = are;
      order = subst AreInOrder (sym sets_are) order;
      limit = omega (arith, limit, ap sequence_count sets_are);
      few_actions = subst HaveFewActions (sym sets_are) few;
    }

-- what a row tells of its set stands at the set's place
pub place_shows : (sets : List InformationSet) (f : InformationSet → ℕ) (i : ℕ) (h : PlacedSet)
    → slice_get (placed sets) i ≡ Some h → slice_get (map f sets) i ≡ Some (f (without_place h))
place_shows sets f i h read =
    ap (λ gs. slice_get (map f gs) i) (sym (placed-without 1 sets)) ∙ slice_get-map f (map without_place (placed sets)) i
    ∙ ap (option_map f) (slice_get-map without_place (placed sets) i ∙ ap (option_map without_place) read)

placed-append : (first : ℕ) (sets : List InformationSet) (h : InformationSet)
    → placed_from first (sets ++ h ∷ [])
    ≡ placed_from first sets ++ record { first = first + total_actions sets; before = h.before; actions = h.actions } ∷ []
placed-append first [] h = let here : first ≡ first + 0 = omega arith in ap (λ n. record { first = n; before = h.before; actions = h.actions } ∷ []) here
placed-append first (g ∷ gs) h =
    let there : first + g.actions + total_actions gs ≡ first + (g.actions + total_actions gs) = omega arith in
    ap (λ hs. record { first = first; before = g.before; actions = g.actions } ∷ hs)
    (placed-append (first + g.actions) gs h ∙ ap (λ n. placed_from (first + g.actions) gs ++ record { first = n; before = h.before; actions = h.actions }
    ∷ []) there)

inside_from : (first : ℕ) (sets : List InformationSet) (k : ℕ) (h : PlacedSet)
    → slice_get (placed_from first sets) k ≡ Some h → h.first + h.actions ≤ first + total_actions sets
inside_from first [] k h read = absurd (cc)
inside_from first (g ∷ gs) zero h read =
    let here : PlacedSet = record { first = first; before = g.before; actions = g.actions } in
    let is : here ≡ h = cc in
    omega (arith, ap (λ (x : PlacedSet). x.first) is, ap (λ (x : PlacedSet). x.actions) is)
inside_from first (g ∷ gs) (suc k) h read = omega (arith, inside_from (first + g.actions) gs k h read)

-- a set's sequences are sequences of its player
pub placed_inside : (sets : List InformationSet) (k : ℕ) (h : PlacedSet) → slice_get (placed sets) k ≡ Some h
    → h.first + h.actions ≤ sequence_count sets
placed_inside sets k h read = inside_from 1 sets k h read

-- and the set is in order where all are
pub placed_in_order : (sets : List InformationSet) (k : ℕ) (h : PlacedSet) → AreInOrder sets
    → slice_get (placed sets) k ≡ Some h → IsInOrder h
placed_in_order sets k h order read =
    subst IsInOrder (get_or_from_slice_get (placed sets) k h h read) (order k h (slice_get_within (placed sets) k h read))

-- what a row tells of its set's sequences
pub row_in_place : (rows : List SetPlace) (numbers : List ℕ) (k : ℕ) (row : SetPlace) → KeepsSets rows numbers
    → k < length rows → row ≡ get_or rows k row
    → (1 ≤ row.actions) × (row.before < row.first) × (row.first + row.actions ≤ sequence_count (map set_of_row rows))
row_in_place rows numbers k row keeps low is =
    let sets : List InformationSet = map set_of_row rows in
    let read : slice_get (placed sets) k ≡ Some (placed_of_row row) =
    ap (λ hs. slice_get hs k) (sym keeps.places) ∙ slice_get-map placed_of_row rows k
    ∙ ap (option_map placed_of_row) (slice_get_read rows (length rows) k row refl low is) in
    let order = placed_in_order sets k (placed_of_row row) keeps.order read in
    (order.0, order.1, placed_inside sets k (placed_of_row row) read)

-- sets in order are no more than their sequences
pub sets_are_few : (first : ℕ) (sets : List InformationSet) → All IsInOrder (placed_from first sets)
    → length sets ≤ total_actions sets
sets_are_few first [] order = omega arith
sets_are_few first (h ∷ hs) order =
    let here : PlacedSet = record { first = first; before = h.before; actions = h.actions } in
    let rest : List PlacedSet = placed_from (first + h.actions) hs in
    omega (arith, (All-head IsInOrder here rest order).0, sets_are_few (first + h.actions) hs (All-tail IsInOrder here rest order))

-- nor are their rows
pub rows_are_few : (rows : List SetPlace) (sets : List InformationSet) → map placed_of_row rows ≡ placed sets
    → AreInOrder sets → length rows < sequence_count sets
rows_are_few rows sets same order = omega (arith, length-map rows set_of_row, ap length (sets_of_rows rows sets same), sets_are_few 1 sets order)

-- the rows of the first k sets, and the first sequence of the next one
pub record StandFor (sets : List InformationSet) (k : ℕ) (rows : List SetPlace) (first : ℕ) : Type 0 where
  pub places : map placed_of_row rows ≡ placed (take k sets)
  pub next : first ≡ sequence_count (take k sets)

module _ (sets : List InformationSet) (k a b : ℕ) (there : k < length sets)
    (actions : slice_get (map (λ (h : InformationSet). h.actions) sets) (k + 1 - 1) ≡ Some a)
    (before : slice_get (map (λ (h : InformationSet). h.before) sets) (k + 1 - 1) ≡ Some b) where
  abbrev h : InformationSet
  h = get_or sets k (record { before = 0; actions = 0 })

  read : (f : InformationSet → ℕ) (n : ℕ) → slice_get (map f sets) (k + 1 - 1) ≡ Some n → f h ≡ n
  read f n got =
      let index : k + 1 - 1 ≡ k = omega arith in
      sym (get_or-map f sets k (record { before = 0; actions = 0 }) 0 there)
      ∙ get_or_from_slice_get (map f sets) k n 0 (ap (slice_get (map f sets)) (sym index) ∙ got)

  more : take (k + 1) sets ≡ take k sets ++ h ∷ []
  more = take_more sets k (record { before = 0; actions = 0 }) there

  count_more : total_actions (take (k + 1) sets) ≡ total_actions (take k sets) + a
  count_more =
      ap total_actions more ∙ nat_sum_over-append (λ (g : InformationSet). g.actions) (take k sets) (h ∷ [])
      ∙ (let one : h.actions + 0 ≡ a = omega (arith, read (λ g. g.actions) a actions) in ap (λ n. total_actions (take k sets) + n) one)

  -- one more set
  pub stand_for_more : (rows : List SetPlace) (first : ℕ) → StandFor sets k rows first
      → StandFor sets (k + 1) (rows ++ record { first = first; before = b; actions = a } ∷ []) (first + a)
  stand_for_more rows first stand = record {
    places = map-append placed_of_row rows (record { first = first; before = b; actions = a } ∷ [])
        ∙ (λ i. stand.places i ++ record {
          first = stand.next i;
          before = sym (read (λ g. g.before) b before) i;
          actions = sym (read (λ g. g.actions) a actions) i;
        } ∷ [])
        ∙ sym (placed-append 1 (take k sets) h) ∙ ap placed (sym more);
    next = omega (arith, stand.next, count_more);
  }

  -- leaves no more sequences than there are
  pub sequences_last : (first : ℕ) → first ≡ sequence_count (take k sets) → first + a ≤ sequence_count sets
  sequences_last first is =
      omega (
        arith,
        count_more,
        is,
        ap total_actions (take-append-drop (k + 1) sets),
        nat_sum_over-append (λ (g : InformationSet). g.actions) (take (k + 1) sets) (drop (k + 1) sets),
      )
