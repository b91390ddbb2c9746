-- Sums against numbers by the weights of pairs of sequences.
use Rattle.std.proofs.Common.{◌≡◌, ℕ, ◌<◌, Bool, true, false, cond, eqb, List, length, get_or, slice_index, ℤ, pos, ◌*ℤ◌, All, sym, ap, ◌∙◌, arith}
use Rattle.std.specs.List.{range_with_len}
use Rattle.std.proofs.lemmas.List.FromFn.{get_or-map-range_with_len, length-map-range_with_len}
use Rattle.def_sums.specs.Sum.{sum_over}
use Rattle.def_sums.proofs.Ranges.{All-range, pick_in}
use Rattle.def_sums.proofs.RingLaws.{*ℤ_comm, *ℤ-zero}
use Rattle.def_sums.proofs.SumLaws.{sum_over-exchange, sum_over-ext, sum_over-factor, sum_over-same}
use Rattle.xg_jobs.specs.Groups.{GroupLeaf, group_sum, weight_with, weights_of}

-- a weight times a number, leaf by leaf
pub spread : (c : ℤ) (group : List GroupLeaf) (b : ℕ)
    → weight_with b group *ℤ c ≡ sum_over (λ e. cond (eqb e.other b) (e.weight *ℤ c) (pos 0)) group
spread c group b =
    *ℤ_comm (weight_with b group) c
    ∙ sym (sum_over-factor c (λ e. cond (eqb e.other b) e.weight (pos 0)) group)
    ∙ sum_over-ext (λ e. c *ℤ cond (eqb e.other b) e.weight (pos 0)) (λ e. cond (eqb e.other b) (e.weight *ℤ c) (pos 0)) group
    (λ e. by_test (eqb e.other b) e.weight)
  where
    by_test : (t : Bool) (w : ℤ) → c *ℤ cond t w (pos 0) ≡ cond t (w *ℤ c) (pos 0)
    by_test true w = *ℤ_comm c w
    by_test false w = *ℤ-zero c

-- a group's sum is that of its weights
by_pairs : (y : List ℕ) (n : ℕ) (group : List GroupLeaf) → All (λ e. e.other < n) group
    → sum_over (λ b. weight_with b group *ℤ pos (slice_index y b)) (range_with_len 0 n) ≡ group_sum y group
by_pairs y n group within =
    sum_over-ext (λ b. weight_with b group *ℤ pos (slice_index y b)) (λ b. sum_over (λ e. cond (eqb e.other b) (e.weight *ℤ pos (slice_index y b)) (pos 0))
    group) (range_with_len 0 n) (λ b. spread (pos (slice_index y b)) group b)
    ∙ sum_over-exchange (λ b e. cond (eqb e.other b) (e.weight *ℤ pos (slice_index y b)) (pos 0)) (range_with_len 0 n) group
    ∙ sum_over-same (λ e. sum_over (λ b. cond (eqb e.other b) (e.weight *ℤ pos (slice_index y b)) (pos 0)) (range_with_len 0 n))
    (λ e. e.weight *ℤ pos (slice_index y e.other)) group
    (λ k d low. pick_in (λ b. (get_or group k d).weight *ℤ pos (slice_index y b)) (get_or group k d).other 0 n (omega arith) (omega (arith, within k d low)))

-- one of the weights
pub weight_read : (n b : ℕ) (group : List GroupLeaf) → b < n
    → get_or (weights_of n group) b (pos 0) ≡ weight_with b group
weight_read n b group low = get_or-map-range_with_len (λ k. weight_with k group) 0 n b b (pos 0) low (omega arith)

-- the weights of a group for the first n sequences of the other player are n numbers
pub weights_count : (n : ℕ) (group : List GroupLeaf) → length (weights_of n group) ≡ n
weights_count n group = length-map-range_with_len (λ k. weight_with k group) 0 n

-- groups of the same weights have the same sum
pub same_sum : (y : List ℕ) (n : ℕ) (group other : List GroupLeaf) → All (λ e. e.other < n) group
    → All (λ e. e.other < n) other → weights_of n group ≡ weights_of n other → group_sum y group ≡ group_sum y other
same_sum y n group other within other_within same =
    sym (by_pairs y n group within)
    ∙ sum_over-same (λ b. weight_with b group *ℤ pos (slice_index y b)) (λ b. weight_with b other *ℤ pos (slice_index y b)) (range_with_len 0 n)
    (All-range (λ b. weight_with b group *ℤ pos (slice_index y b) ≡ weight_with b other *ℤ pos (slice_index y b)) 0 n
    (λ b from low. ap (λ w. w *ℤ pos (slice_index y b)) (each b (omega arith))))
    ∙ by_pairs y n other other_within
  where
    each : (b : ℕ) → b < n → weight_with b group ≡ weight_with b other
    each b low = sym (weight_read n b group low) ∙ ap (λ ws. get_or ws b (pos 0)) same ∙ weight_read n b other low
