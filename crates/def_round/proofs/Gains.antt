-- The sums of both players against what a pair of plans pays.
use Rattle.std.proofs.Common.{◌≡◌, ℕ, List, [], ◌∷◌, slice_index, arith, ap, ◌∙◌, refl}
use Rattle.std.specs.Prelude.{ℤ, pos, neg_ℤ, ◌*ℤ◌}
use Rattle.std.proofs.lemmas.Int.{ints}
use Rattle.def_tree.specs.declared.Player.TheVariants.{Two}
use Rattle.def_sums.specs.Sum.{sum_over}
use Rattle.def_sums.proofs.RingLaws.{neg-*ℤ}
use Rattle.def_plan.specs.Form.{sequences}
use Rattle.def_plan.specs.Payoff.{leaf_sum}
use Rattle.def_plan.proofs.Sums.{gain_is_pay_one, gain_is_pay_two}
use Rattle.def_round.specs.Laws.{OwnSumsGainWhatIsPaid}

negated : (f : ℕ → ℤ) (plan : List ℕ) (xs : List ℕ)
    → sum_over (λ s. neg_ℤ (f s) *ℤ pos (slice_index plan s)) xs
    ≡ neg_ℤ (sum_over (λ s. f s *ℤ pos (slice_index plan s)) xs)
negated f plan [] = refl
negated f plan (x ∷ xs) = omega (arith, ints, neg-*ℤ (f x) (pos (slice_index plan x)), negated f plan xs)

-- what a plan gains from its player's sums is the payoff, with the other sign for player two
pub own_sums_gain : OwnSumsGainWhatIsPaid
own_sums_gain form plan_one plan_two = record {
  of_one = λ long. gain_is_pay_one form.leaves form.sets_one plan_one plan_two long;
  of_two = λ long. negated (leaf_sum Two form.leaves plan_one) plan_two (sequences form.sets_two)
      ∙ ap neg_ℤ (gain_is_pay_two form.leaves form.sets_two plan_one plan_two long);
}
