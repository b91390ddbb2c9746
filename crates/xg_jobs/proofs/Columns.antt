-- What all groups add to a row of the other player is the leaf sum of its sequence.
use Rattle.std.proofs.Common.{◌≡◌, ℕ, ◌<◌, cond, eqb, List, get_or, slice_index, pos, ◌*ℤ◌, All, sym, ap, ◌∙◌, arith}
use Rattle.std.specs.List.{range_with_len}
use Rattle.def_sums.specs.Sum.{sum_over}
use Rattle.def_sums.proofs.Ranges.{All-range, pick_in}
use Rattle.def_sums.proofs.SumLaws.{sum_over-exchange, sum_over-ext, sum_over-filter, sum_over-map, sum_over-same}
use Rattle.def_tree.specs.declared.Player.TheVariants.{One, Two}
use Rattle.def_plan.specs.Form.{Leaf, leaf_sequence}
use Rattle.def_plan.specs.Payoff.{leaf_sum}
use Rattle.def_plan.proofs.Rows.{leaf_sums_add_amounts}
use Rattle.xg_jobs.specs.Groups.{GroupLeaf, group_at, group_part, parts_sum, weights_of}
use Rattle.xg_jobs.specs.Grouping.{entries_with, entry_of, leaves_of_sequence}
use Rattle.xg_jobs.proofs.PairWeights.{spread, weight_read}

-- groups of the same weights add the same to a row
same_part : (number n b : ℕ) (group other : List GroupLeaf) → b < n → weights_of n group ≡ weights_of n other
    → group_part number group b ≡ group_part number other b
same_part number n b group other low same =
    sym (spread (pos number) group b)
    ∙ ap (λ w. w *ℤ pos number) (sym (weight_read n b group low) ∙ ap (λ ws. get_or ws b (pos 0)) same ∙ weight_read n b other low)
    ∙ spread (pos number) other b

-- what a sequence's leaves add to a row, as a sum over all leaves
by_leaves : (x : List ℕ) (s b : ℕ) (leaves : List Leaf)
    → group_part (slice_index x s) (entries_with One s leaves) b
    ≡ sum_over (λ z. cond (eqb (leaf_sequence One z) s) (cond (eqb (leaf_sequence Two z) b) (z.weight *ℤ pos (slice_index x s)) (pos 0)) (pos 0)) leaves
by_leaves x s b leaves =
    sum_over-map (λ e. cond (eqb e.other b) (e.weight *ℤ pos (slice_index x s)) (pos 0)) (entry_of One) (leaves_of_sequence One s leaves)
    ∙ sum_over-filter (λ z. cond (eqb (leaf_sequence Two z) b) (z.weight *ℤ pos (slice_index x s)) (pos 0)) (λ z. eqb (leaf_sequence One z) s) leaves

-- over all sequences of player one they add up to the leaf sum
all_leaves : (x : List ℕ) (n b : ℕ) (leaves : List Leaf) → All (λ z. leaf_sequence One z < n) leaves
    → sum_over (λ s. group_part (slice_index x s) (entries_with One s leaves) b) (range_with_len 0 n) ≡ leaf_sum Two leaves x b
all_leaves x n b leaves known =
    sum_over-ext (λ s. group_part (slice_index x s) (entries_with One s leaves) b)
    (λ s. sum_over (λ z. cond (eqb (leaf_sequence One z) s) (cond (eqb (leaf_sequence Two z) b) (z.weight *ℤ pos (slice_index x s)) (pos 0)) (pos 0)) leaves)
    (range_with_len 0 n) (λ s. by_leaves x s b leaves)
    ∙ sum_over-exchange (λ s z. cond (eqb (leaf_sequence One z) s) (cond (eqb (leaf_sequence Two z) b) (z.weight *ℤ pos (slice_index x s)) (pos 0)) (pos 0))
    (range_with_len 0 n) leaves
    ∙ sum_over-same (λ z. sum_over (λ s. cond (eqb (leaf_sequence One z) s) (cond (eqb (leaf_sequence Two z) b) (z.weight *ℤ pos (slice_index x s)) (pos 0))
    (pos 0)) (range_with_len 0 n))
    (λ z. cond (eqb (leaf_sequence Two z) b) (z.weight *ℤ pos (slice_index x (leaf_sequence One z))) (pos 0)) leaves
    (λ k d low. pick_in (λ s. cond (eqb (leaf_sequence Two (get_or leaves k d)) b) ((get_or leaves k d).weight *ℤ pos (slice_index x s)) (pos 0))
    (leaf_sequence One (get_or leaves k d)) 0 n (omega arith) (omega (arith, known k d low)))
    ∙ leaf_sums_add_amounts Two leaves x b

-- where each group has the weights of its sequence's leaves, the groups add to each row its leaf sum
pub parts_are_leaf_sum : (starts : List ℕ) (entries : List GroupLeaf) (x : List ℕ) (n others b : ℕ) (leaves : List Leaf)
    → ((s : ℕ) → s < n → weights_of others (group_at starts entries s) ≡ weights_of others (entries_with One s leaves))
    → All (λ z. leaf_sequence One z < n) leaves → b < others
    → parts_sum starts entries x n b ≡ leaf_sum Two leaves x b
parts_are_leaf_sum starts entries x n others b leaves same known low =
    sum_over-same (λ s. group_part (slice_index x s) (group_at starts entries s) b) (λ s. group_part (slice_index x s) (entries_with One s leaves) b)
    (range_with_len 0 n)
    (All-range (λ s. group_part (slice_index x s) (group_at starts entries s) b ≡ group_part (slice_index x s) (entries_with One s leaves) b) 0 n
    (λ s from to. same_part (slice_index x s) others b (group_at starts entries s) (entries_with One s leaves) low (same s (omega arith))))
    ∙ all_leaves x n b leaves known
