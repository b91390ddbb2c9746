-- What shares are, in their own words.
use Rattle.std.specs.Prelude.{◌≡◌, ℕ, ◌+◌, ◌*◌, ◌/◌, ◌≤◌, ◌<◌, List, length, take, slice_index}
use Rattle.def_sums.specs.Sum.{nat_sum_over}
use Rattle.def_round.specs.Shares.{weight_sum, prefix_sum, weights_or_ones, shares}

-- there is a share for each weight, and they add up to n
pub record DealAll (n : ℕ) (weights : List ℕ) : Type 0 where
  pub one_each : length (shares n weights) ≡ length weights
  pub whole : nat_sum_over (λ share. share) (shares n weights) ≡ n

abbrev pub SharesDealAll : Type 0
SharesDealAll = (n : ℕ) (weights : List ℕ) → 1 ≤ length weights → DealAll n weights

-- the shares before place i add up to the floor of n times the sum of the weights before i, divided by the sum of all
-- weights; where all weights are 0, each counts as 1
pub record AddUpBefore (n : ℕ) (weights : List ℕ) (i : ℕ) : Type 0 where
  pub by_weight : 1 ≤ weight_sum weights
      → nat_sum_over (λ share. share) (take i (shares n weights)) ≡ n * prefix_sum weights i / weight_sum weights
  pub evenly : weight_sum weights ≡ 0
      → nat_sum_over (λ share. share) (take i (shares n weights)) ≡ n * i / length weights

abbrev pub SharesBeforeAddUp : Type 0
SharesBeforeAddUp = (n : ℕ) (weights : List ℕ) (i : ℕ) → i ≤ length weights → AddUpBefore n weights i

-- no difference is cut off at 0: a share and what the weights before it get make what the weights up to it get
pub record IsDifference (n : ℕ) (weights : List ℕ) (i : ℕ) : Type 0 where
  pub by_weight : 1 ≤ weight_sum weights
      → slice_index (shares n weights) i + n * prefix_sum weights i / weight_sum weights
      ≡ n * prefix_sum weights (i + 1) / weight_sum weights
  pub evenly : weight_sum weights ≡ 0
      → slice_index (shares n weights) i + n * i / length weights ≡ n * (i + 1) / length weights

abbrev pub SharesAreDifferences : Type 0
SharesAreDifferences = (n : ℕ) (weights : List ℕ) (i : ℕ) → i < length weights → IsDifference n weights i

-- a share is the weight's part of n, but for less than one unit
pub record IsWithinOne (n weight sum share : ℕ) : Type 0 where
  pub above : n * weight < (share + 1) * sum
  pub below : share * sum < n * weight + sum

abbrev pub SharesAreInProportion : Type 0
SharesAreInProportion = (n : ℕ) (weights : List ℕ) (i : ℕ) → i < length weights
    → IsWithinOne n (slice_index (weights_or_ones weights) i) (weight_sum (weights_or_ones weights))
    (slice_index (shares n weights) i)

-- what has no weight gets nothing, where something has a weight
abbrev pub NoWeightNoShare : Type 0
NoWeightNoShare = (n : ℕ) (weights : List ℕ) (i : ℕ) → i < length weights → 1 ≤ weight_sum weights
    → slice_index weights i ≡ 0 → slice_index (shares n weights) i ≡ 0
