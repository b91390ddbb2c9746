-- What the evaluations of a run of plain rounds are worth: what holds of every run that sums plans.
use Rattle.std.specs.Prelude.{◌≡◌, ℕ, ◌*◌, ◌≤◌, ◌<◌, ℤ, pos, ◌-ℤ◌, ◌*ℤ◌, ◌≤ℤ◌, List, length, slice_index_or, All, Some}
use Rattle.std.specs.Prelude.{None}
use Rattle.def_sums.specs.Limits.{most_scale, most_rounds}
use Rattle.def_plan.specs.Form.{SequenceForm, AreInOrder}
use Rattle.def_plan.specs.Plan.{IsPlan}
use Rattle.def_reply.specs.Bounds.{IsFloor, IsCeiling, IsExploitability}
use Rattle.def_reply.specs.Bracket.{BracketEnds, ends_of, trace, LiesWithin}
use Rattle.def_reply.specs.declared.TraceLine.{TraceLine}
use Rattle.def_reply.specs.BracketLaws.{LooksBack}
use Rattle.def_reply.specs.Offers.{IsFair}
use Rattle.def_reply.specs.Outcome.{Head, OutcomeEnds}
use Rattle.def_run.specs.Run.{plain_run, evaluations, offer_after, outcome, lower_plan_in, upper_plan_in}
use Rattle.def_run.specs.WeighedLaws.{IsWorthItsBoundsIn, AreBestEndsIn, HasPlansIn}

-- after at least one round, both sums are plans, and the evaluation has the attained floor of the one and the attained
-- ceiling of the other
abbrev pub EvaluationsAreBounds : Type 0
EvaluationsAreBounds = (form : SequenceForm) (root round : ℕ) → AreInOrder form.sets_one → AreInOrder form.sets_two
    → 1 ≤ root → 1 ≤ round
    → IsWorthItsBoundsIn form root (plain_run form root) round

-- an end is the earliest best evaluation, and the one after its own round, which is an evaluated one
abbrev pub EndsAreOfTheirRounds : Type 0
EndsAreOfTheirRounds = (form : SequenceForm) (root every last : ℕ) (ends : BracketEnds)
    → ends_of (evaluations form root every last) ≡ Some ends
    → AreBestEndsIn form (plain_run form root) every last ends

-- a run of at least one round has ends
abbrev pub RunsHaveEnds : Type 0
RunsHaveEnds = (form : SequenceForm) (root every last : ℕ) → 1 ≤ last
    → (ends : BracketEnds) × (ends_of (evaluations form root every last) ≡ Some ends)

-- and the lower one is at most the upper one, each divided by its round
abbrev pub EndsAreInOrder : Type 0
EndsAreInOrder = (form : SequenceForm) (root every last : ℕ) (ends : BracketEnds) → AreInOrder form.sets_one
    → AreInOrder form.sets_two → 1 ≤ root
    → ends_of (evaluations form root every last) ≡ Some ends
    → (ends.lower.low *ℤ pos ends.upper.round) ≤ℤ (ends.upper.high *ℤ pos ends.lower.round)

-- no line of a run's trace is wider than an earlier one, and the ends of each come from rounds up to its own
abbrev pub TraceOfRunNeverWidens : Type 0
TraceOfRunNeverWidens = (form : SequenceForm) (root every last j k : ℕ) (line : TraceLine) → j ≤ k
    → k < length (trace (evaluations form root every last))
    → LiesWithin (slice_index_or (trace (evaluations form root every last)) k line)
    (slice_index_or (trace (evaluations form root every last)) j line)

abbrev pub TraceOfRunLooksBack : Type 0
TraceOfRunLooksBack = (form : SequenceForm) (root every last : ℕ)
    → All LooksBack (trace (evaluations form root every last))

-- the plans at the two ends of a run
abbrev pub plan_at_lower : SequenceForm → ℕ → BracketEnds → List ℕ
plan_at_lower form root ends = lower_plan_in (plain_run form root) ends

abbrev pub plan_at_upper : SequenceForm → ℕ → BracketEnds → List ℕ
plan_at_upper form root ends = upper_plan_in (plain_run form root) ends

-- the gap between the ends, each over its plan's root, is the total exploitability of the two plans
abbrev pub GapOfRunIsExploitability : Type 0
GapOfRunIsExploitability = (form : SequenceForm) (root every last : ℕ) (ends : BracketEnds) → AreInOrder form.sets_one
    → AreInOrder form.sets_two → 1 ≤ root
    → ends_of (evaluations form root every last) ≡ Some ends
    → IsExploitability form (ends.lower.round * root) (ends.upper.round * root) (plan_at_lower form root ends)
    (plan_at_upper form root ends)
    ((pos (ends.lower.round * root) *ℤ ends.upper.high) -ℤ (pos (ends.upper.round * root) *ℤ ends.lower.low))

-- no plan of player one has a floor that, over its root, exceeds the upper end, and no plan of player two has a ceiling
-- that is below the lower end
pub record EndsBoundAllPlans : Type 0 where
  pub floors : (form : SequenceForm) (root every last : ℕ) (ends : BracketEnds) (plan_root : ℕ) (plan_one : List ℕ)
      (floor : ℤ)
      → AreInOrder form.sets_one → AreInOrder form.sets_two → 1 ≤ root
      → ends_of (evaluations form root every last) ≡ Some ends
      → IsPlan form.sets_one plan_root plan_one → IsFloor form plan_one floor
      → (pos (ends.upper.round * root) *ℤ floor) ≤ℤ (pos plan_root *ℤ ends.upper.high)
  pub ceilings : (form : SequenceForm) (root every last : ℕ) (ends : BracketEnds) (plan_root : ℕ) (plan_two : List ℕ)
      (ceiling : ℤ)
      → AreInOrder form.sets_one → AreInOrder form.sets_two → 1 ≤ root
      → ends_of (evaluations form root every last) ≡ Some ends
      → IsPlan form.sets_two plan_root plan_two → IsCeiling form plan_two ceiling
      → (pos plan_root *ℤ ends.lower.low) ≤ℤ (pos (ends.lower.round * root) *ℤ ceiling)

-- each offer of a run is fair, and its evaluation is the run's
abbrev pub OffersOfRunAreFair : Type 0
OffersOfRunAreFair = (form : SequenceForm) (root round : ℕ) → AreInOrder form.sets_one → AreInOrder form.sets_two
    → 1 ≤ root → root ≤ most_scale → 1 ≤ round → round ≤ most_rounds → (last : ℕ) → last < round
    → IsFair form last (offer_after form root round)

-- the outcome of a run: the trace of its evaluations; and where a round was asked, the sums of plans at both ends of
-- the bracket with the best replies to them
pub record OutcomesShowTheirRun : Type 0 where
  pub head : (form : SequenceForm) (head : Head) → (outcome form head).head ≡ head
  pub trace : (form : SequenceForm) (head : Head)
      → (outcome form head).trace ≡ trace (evaluations form head.scale head.every head.rounds)
  pub no_ends : (form : SequenceForm) (head : Head) → head.rounds ≡ 0 → (outcome form head).ends ≡ None
  pub ends : (form : SequenceForm) (head : Head) (ends : BracketEnds)
      → ends_of (evaluations form head.scale head.every head.rounds) ≡ Some ends
      → (shown : OutcomeEnds) × ((outcome form head).ends ≡ Some shown)
      × HasPlansIn form (plain_run form head.scale) ends shown
