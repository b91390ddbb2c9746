-- The payoff by leaf sums.
use Rattle.std.proofs.Common.{◌≡◌, ℕ, ◌*◌, List, length, slice_index, ℤ, pos, ◌*ℤ◌, ap, ◌∙◌, arith}
use Rattle.def_tree.specs.declared.Player.TheVariants.{One, Two}
use Rattle.def_sums.proofs.RingLaws.{*ℤ_assoc}
use Rattle.def_sums.proofs.SumLaws.{sum_over-ext}
use Rattle.def_plan.specs.Form.{InformationSet, sequence_count, Leaf}
use Rattle.def_plan.specs.Payoff.{pay, leaf_sum, gain}
use Rattle.def_plan.proofs.Regroup.{regroup}

by_one : (w : ℤ) (m n : ℕ) → w *ℤ pos n *ℤ pos m ≡ w *ℤ pos (m * n)
by_one w m n = *ℤ_assoc w (pos n) (pos m) ∙ ap (λ z. w *ℤ pos z) (omega arith)

-- what player one's plan gains from the leaf sums against player two's is the payoff of both
pub gain_is_pay_one : (leaves : List Leaf) (sets : List InformationSet) (x y : List ℕ) → length x ≡ sequence_count sets
    → gain (leaf_sum One leaves y) sets x ≡ pay leaves x y
gain_is_pay_one leaves sets x y e =
    regroup leaves (λ z. z.sequence_one) (λ z. z.weight *ℤ pos (slice_index y z.sequence_two)) x (sequence_count sets) e
    ∙ sum_over-ext _ _ leaves (λ z. by_one z.weight (slice_index x z.sequence_one) (slice_index y z.sequence_two))

-- what player two's plan gains from the leaf sums against player one's is the payoff of both
pub gain_is_pay_two : (leaves : List Leaf) (sets : List InformationSet) (x y : List ℕ) → length y ≡ sequence_count sets
    → gain (leaf_sum Two leaves x) sets y ≡ pay leaves x y
gain_is_pay_two leaves sets x y e =
    regroup leaves (λ z. z.sequence_two) (λ z. z.weight *ℤ pos (slice_index x z.sequence_one)) y (sequence_count sets) e
    ∙ sum_over-ext _ _ leaves (λ z. *ℤ_assoc z.weight (pos (slice_index x z.sequence_one)) (pos (slice_index y z.sequence_two)))
