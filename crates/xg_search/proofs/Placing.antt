-- What is read of a player's places.
use Rattle.std.proofs.Common.{◌≡◌, ℕ, ◌+◌, ◌<◌, ◌≤◌, List, length, map, get_or, slice_get, Some, refl, ap, sym, ◌∙◌}
use Rattle.std.specs.Option.{option_map}
use Rattle.std.proofs.lemmas.List.{get_or_default}
use Rattle.std.proofs.lemmas.Option.{slice_get-map, slice_get_read}
use Rattle.def_plan.specs.Form.{AreInOrder, InformationSet, placed, sequence_count}
use Rattle.xg_seq.specs.declared.table.SetPlace.{SetPlace}
use Rattle.xg_seq.specs.Table.{placed_of_row}
use Rattle.xg_seq.proofs.RowLemmas.{placed_in_order, placed_inside}

-- a set in its place has an action, comes after the sequence before it, and has its sequences among all of them
pub record IsInPlace (sets : List InformationSet) (row : SetPlace) : Type 0 where
  pub some : 1 ≤ row.actions
  pub earlier : row.before < row.first
  pub inside : row.first + row.actions ≤ sequence_count sets

pub in_place : (sets : List InformationSet) (rows : List SetPlace) (k : ℕ) (d : SetPlace) → AreInOrder sets
    → map placed_of_row rows ≡ placed sets → k < length rows → IsInPlace sets (get_or rows k d)
in_place sets rows k d order same low =
    let row : SetPlace = get_or rows k d in
    let is : row ≡ get_or rows k row = get_or_default rows k d row low in
    let read : slice_get (placed sets) k ≡ Some (placed_of_row row) =
    ap (λ hs. slice_get hs k) (sym same) ∙ slice_get-map placed_of_row rows k
    ∙ ap (option_map placed_of_row) (slice_get_read rows (length rows) k row refl low is) in
    let ordered = placed_in_order sets k (placed_of_row row) order read in
    record { some = ordered.0; earlier = ordered.1; inside = placed_inside sets k (placed_of_row row) read }
