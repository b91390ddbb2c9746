-- A stripe: the jobs that were added, and the total at each of its rows.
use Rattle.std.specs.Prelude.{◌≡◌, ℕ, ◌+◌, ◌*◌, ◌<◌, ℤ, pos, ◌+ℤ◌, List, [], ◌∷◌, ◌++◌, length, slice_index_or}
use Rattle.def_history.specs.History.{replay}
use Rattle.def_history.specs.Packets.{RowAmount, brought, place_count}

-- the stripe's number, how many stripes there are, and the jobs that were added, in their order
pub record StripeHistory : Type 0 where
  pub index : ℕ
  pub stripes : ℕ
  pub order : List ℕ

-- the same with one job more
abbrev pub with_job : StripeHistory → ℕ → StripeHistory
with_job history job = record { index = history.index; stripes = history.stripes; order = history.order ++ job ∷ [] }

-- each of the stripe's rows has a total, and it is the replay of the history there
pub record AreTotals (rows : ℕ) (amount : ℕ → ℕ → ℤ) (index stripes : ℕ) (order : List ℕ)
    (totals : List ℤ) : Type 0 where
  pub length_is : length totals ≡ place_count stripes rows index
  pub replayed : (place : ℕ) → place < length totals
      → slice_index_or totals place (pos 0) ≡ replay amount order (place * stripes + index)

-- each total has grown by what the entries bring to its row
pub record HasGrown (entries : List RowAmount) (index stripes : ℕ) (old new : List ℤ) : Type 0 where
  pub length_kept : length new ≡ length old
  pub grown : (place : ℕ) → place < length old
      → slice_index_or new place (pos 0) ≡ slice_index_or old place (pos 0) +ℤ brought entries (place * stripes + index)
