-- Shares in whole units: what each of several weights gets of n, by the floors of the prefix sums. They stand for the
-- probabilities of regret matching (Zinkevich, Johanson, Bowling and Piccione 2007), in proportion to the weights.
use Rattle.std.specs.Prelude.{ℕ, ◌+◌, ◌-◌, ◌*◌, ◌/◌, ◌==◌, List, length, map, take, replicate, if◌then◌else◌}
use Rattle.std.specs.List.{range_with_len}
use Rattle.def_sums.specs.Sum.{nat_sum_over}

-- the sum of the weights, and of the first i of them
abbrev pub weight_sum : List ℕ → ℕ
weight_sum weights = nat_sum_over (λ w. w) weights

abbrev pub prefix_sum : List ℕ → ℕ → ℕ
prefix_sum weights i = weight_sum (take i weights)

-- where all weights are 0, each counts as 1
abbrev pub weights_or_ones : List ℕ → List ℕ
weights_or_ones weights = if weight_sum weights == 0 then replicate (length weights) 1 else weights

-- what the first i weights get together: the floor of their part of n
abbrev pub prefix_share : ℕ → List ℕ → ℕ → ℕ
prefix_share n weights i = n * prefix_sum weights i / weight_sum weights

-- share i, counted from 0, is what the first i + 1 weights get together without what the first i get
abbrev pub shares_in_proportion : ℕ → List ℕ → List ℕ
shares_in_proportion n weights = map (λ i. prefix_share n weights (i + 1) - prefix_share n weights i)
    (range_with_len 0 (length weights))

abbrev pub shares : ℕ → List ℕ → List ℕ
shares n weights = shares_in_proportion n (weights_or_ones weights)
