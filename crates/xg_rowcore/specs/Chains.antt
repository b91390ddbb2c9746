-- Places of rows, stripe by stripe.
use Rattle.std.specs.Prelude.{◌≡◌, ◌≢◌, ℕ, ◌+◌, ◌<◌, ◌≤◌, List, length, slice_index, map}
use Rattle.def_sums.specs.Limits.{most_stripes}
use Rattle.def_history.specs.History.{stripe_of}
use Rattle.def_history.specs.Packets.{RowAmount}

-- how many stripes the program's rows are cut into
abbrev pub usual_stripes : ℕ
usual_stripes = 16

-- the rows of entries
abbrev pub rows_of_entries : List RowAmount → List ℕ
rows_of_entries entries = map (λ entry. entry.row) entries

-- the first place from one on whose row lies in the stripe, or the number of rows where there is none
pub record IsNextOf (stripes stripe : ℕ) (rows : List ℕ) (from place : ℕ) : Type 0 where
  pub after : from ≤ place
  pub inside : place ≤ length rows
  pub own : place < length rows → stripe_of stripes (slice_index rows place) ≡ stripe
  pub others : (i : ℕ) → from ≤ i → i < place → stripe_of stripes (slice_index rows i) ≢ stripe

-- from a place on, each stripe's first row, and after each row the next one of its stripe
pub record AreChains (from stripes : ℕ) (rows first next : List ℕ) : Type 0 where
  pub firsts : (stripe : ℕ) → stripe < stripes → IsNextOf stripes stripe rows from (slice_index first stripe)
  pub nexts : (i : ℕ) → from ≤ i → i < length rows
      → IsNextOf stripes (stripe_of stripes (slice_index rows i)) rows (i + 1) (slice_index next i)

-- there is room, and the chains are those of the rows where there are any
pub record KeepsChains (rows : List ℕ) (room stripes : ℕ) (first next : List ℕ) : Type 0 where
  pub first_count : length first ≡ most_stripes
  pub next_count : length next ≡ room
  pub few : stripes ≤ most_stripes
  pub linked : 1 ≤ stripes → AreChains 0 stripes rows first next
