-- What is gathered at the end.
use Rattle.std.specs.Prelude.{◌≡◌, ℕ, ◌+◌, ◌<◌, ◌==◌, ◌&&◌, if◌then◌else◌, nat_lt, ℤ, pos, ◌+ℤ◌, List, length, All}
use Rattle.std.specs.Prelude.{slice_index_or}
use Rattle.def_history.specs.Core.{Right, times_right}
use Rattle.def_history.specs.History.{place_of, replay, stripe_of, times}
use Rattle.xg_rowcore.specs.Stripes.{StripeHistory}

-- what a stripe adds to a row
abbrev pub share_of : (ℕ → ℕ → ℤ) → StripeHistory → ℕ → ℤ
share_of amount h row = if stripe_of h.stripes row == h.index then replay amount h.order row else pos 0

-- the same, for the rows at its first places
abbrev pub share_below : (ℕ → ℕ → ℤ) → StripeHistory → ℕ → ℕ → ℤ
share_below amount h places row =
    if (stripe_of h.stripes row == h.index) && nat_lt (place_of h.stripes row) places
    then replay amount h.order row
    else pos 0

-- the stripe's totals are added to its rows
pub record AddsTotals (amount : ℕ → ℕ → ℤ) (h : StripeHistory) (old new : List ℤ) : Type 0 where
  pub same : length new ≡ length old
  pub each : (row : ℕ) → row < length old
      → slice_index_or new row (pos 0) ≡ slice_index_or old row (pos 0) +ℤ share_of amount h row

-- the totals at its first places are
pub record AddsTotalsBelow (amount : ℕ → ℕ → ℤ) (h : StripeHistory) (places : ℕ) (old new : List ℤ) : Type 0 where
  pub same : length new ≡ length old
  pub each : (row : ℕ) → row < length old
      → slice_index_or new row (pos 0) ≡ slice_index_or old row (pos 0) +ℤ share_below amount h places row

-- beside the rights that were there at the start, each right is of a job that the order of a stripe has, and the rows
-- have the replays of these orders
pub record Gathered (jobs rows stripes : ℕ) (amount : ℕ → ℕ → ℤ) (start now : List Right) (sums : List ℤ) : Type 0 where
  pub orders : ℕ → List ℕ
  pub jobs_named : (s : ℕ) → All (λ job. job < jobs) (orders s)
  pub rights : (j s : ℕ) → times_right j s now ≡ times_right j s start + times j (orders s)
  pub length_is : length sums ≡ rows
  pub sums_are : (row : ℕ) → row < rows
      → slice_index_or sums row (pos 0) ≡ replay amount (orders (stripe_of stripes row)) row
