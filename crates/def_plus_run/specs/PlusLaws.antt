-- What holds of runs of CFR+. Each is the contract of a function of this crate.
use Rattle.std.specs.Prelude.{◌≡◌, ℕ, ◌*◌, ◌^◌, ◌≤◌, ◌<◌, pos, ◌*ℤ◌, ◌≤ℤ◌, unsigned_abs, length, slice_index_or, Some}
use Rattle.def_plan.specs.Form.{SequenceForm, AreInOrder}
use Rattle.def_plan.specs.Payoff.{mass_of}
use Rattle.def_reply.specs.Bracket.{BracketEnds, ends_of, trace, LiesWithinBy}
use Rattle.def_reply.specs.declared.TraceLine.{TraceLine}
use Rattle.def_reply.specs.Offers.{IsFair}
use Rattle.def_plus.specs.Limits.{IsWithinPlusLimits, most_plus_rounds}
use Rattle.def_plus.specs.Weights.{total_weight}
use Rattle.def_run.specs.Run.{SumsPlans}
use Rattle.def_run.specs.WeighedLaws.{AreBestEndsIn, AreBoundsIn}
use Rattle.def_plus_run.specs.PlusRun.{plus_run, plus_evaluation, plus_evaluations, plus_offer}

-- its sums are plans, of the root times 1 + 2 + .. + n, so all that holds of runs that sum plans holds of it
abbrev pub PlusRunsSumPlans : Type 0
PlusRunsSumPlans = (form : SequenceForm) (root : ℕ) → AreInOrder form.sets_one → AreInOrder form.sets_two → 1 ≤ root
    → SumsPlans form root (plus_run form root)

-- within the limits an evaluation's bounds are at most the mass times the root of the sums, and their products with
-- what other rounds weigh are below 2 ^ 119
pub record ArePlusBoundsSmall (form : SequenceForm) (root round other : ℕ) : Type 0 where
  pub low : unsigned_abs (plus_evaluation form root round).low ≤ mass_of form.leaves * (total_weight round * root)
  pub high : unsigned_abs (plus_evaluation form root round).high ≤ mass_of form.leaves * (total_weight round * root)
  pub low_product : unsigned_abs ((plus_evaluation form root round).low *ℤ pos (total_weight other)) < 2 ^ 119
  pub high_product : unsigned_abs ((plus_evaluation form root round).high *ℤ pos (total_weight other)) < 2 ^ 119

abbrev pub PlusBoundsAreSmall : Type 0
PlusBoundsAreSmall = (form : SequenceForm) (root round other : ℕ) → AreInOrder form.sets_one
    → AreInOrder form.sets_two → 1 ≤ root → 1 ≤ round → IsWithinPlusLimits form root round → other ≤ most_plus_rounds
    → ArePlusBoundsSmall form root round other

-- and each offer is fair
abbrev pub PlusOffersAreFair : Type 0
PlusOffersAreFair = (form : SequenceForm) (root round : ℕ) → AreInOrder form.sets_one → AreInOrder form.sets_two
    → 1 ≤ root → 1 ≤ round → IsWithinPlusLimits form root round → (last : ℕ) → last < round
    → IsFair form last (plus_offer form root round)

-- the bracket of a run: its ends are the earliest best of its evaluations, each divided by 1 + 2 + .. + n; they are
-- attained bounds of the plans there, and in order, and no line of the trace is wider than an earlier one
pub record IsPlusBracket (form : SequenceForm) (root every last : ℕ) (ends : BracketEnds) : Type 0 where
  pub best : AreBestEndsIn form (plus_run form root) every last ends
  pub bounds : AreBoundsIn form root (plus_run form root) ends
  pub in_order : (ends.lower.low *ℤ pos (total_weight ends.upper.round))
      ≤ℤ (ends.upper.high *ℤ pos (total_weight ends.lower.round))
  pub narrows : (j k : ℕ) (line : TraceLine) → j ≤ k → k < length (trace (plus_evaluations form root every last))
      → let lines = trace (plus_evaluations form root every last) in
      LiesWithinBy total_weight (slice_index_or lines k line) (slice_index_or lines j line)

abbrev pub PlusRunsHaveBrackets : Type 0
PlusRunsHaveBrackets = (form : SequenceForm) (root every last : ℕ) (ends : BracketEnds) → AreInOrder form.sets_one
    → AreInOrder form.sets_two → 1 ≤ root → ends_of (plus_evaluations form root every last) ≡ Some ends
    → IsPlusBracket form root every last ends
