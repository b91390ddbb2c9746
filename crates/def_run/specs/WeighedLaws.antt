-- What holds of the bracket of every run that sums plans. Each is the contract of a function of this crate.
use Rattle.std.specs.Prelude.{◌≡◌, ℕ, ◌*◌, ◌≤◌, ◌<◌, ◌⊎◌, ◌%◌, ℤ, pos, ◌-ℤ◌, ◌*ℤ◌, ◌≤ℤ◌}
use Rattle.std.specs.Prelude.{List, length, slice_index_or, All, Some, None}
use Rattle.def_sums.specs.Limits.{most_root, most_rounds}
use Rattle.def_tree.specs.declared.Player.TheVariants.{One, Two}
use Rattle.def_plan.specs.Form.{SequenceForm, AreInOrder}
use Rattle.def_plan.specs.Plan.{IsPlan, pure_plan}
use Rattle.def_reply.specs.Reply.{choices_of, best_reply_to}
use Rattle.def_reply.specs.Bounds.{IsFloor, IsCeiling, AttainsFloor, AttainsCeiling, IsExploitability}
use Rattle.def_reply.specs.Bracket.{Evaluation, BracketEnds, ends_of, trace, IsLowerEnd, IsUpperEnd, LiesWithinBy}
use Rattle.def_reply.specs.declared.TraceLine.{TraceLine}
use Rattle.def_reply.specs.BracketLaws.{LooksBack}
use Rattle.def_reply.specs.Offers.{IsFair, most_divisor}
use Rattle.def_reply.specs.Outcome.{Head, OutcomeEnds}
use Rattle.def_run.specs.Run.{reply_to, WeighedRun, HasWeights, SumsPlans, evaluation_in, evaluations_in, offer_in}
use Rattle.def_run.specs.Run.{outcome_in}
use Rattle.def_run.specs.Run.{lower_plan_in, upper_plan_in, plain_run}

-- plain rounds are such a run
abbrev pub PlainRunsSumPlans : Type 0
PlainRunsSumPlans = (form : SequenceForm) (root : ℕ) → AreInOrder form.sets_one → AreInOrder form.sets_two → 1 ≤ root
    → SumsPlans form root (plain_run form root)

-- after a round both sums are plans, and the evaluation has the attained floor of the one and the attained ceiling of
-- the other
pub record IsWorthItsBoundsIn (form : SequenceForm) (root : ℕ) (run : WeighedRun) (round : ℕ) : Type 0 where
  pub plan_one : IsPlan form.sets_one (run.weight round * root) (run.sum_one round)
  pub plan_two : IsPlan form.sets_two (run.weight round * root) (run.sum_two round)
  pub floor : IsFloor form (run.sum_one round) (evaluation_in form run round).low
  pub floor_attained : AttainsFloor form (run.sum_one round) (evaluation_in form run round).low
      (pure_plan form.sets_two (choices_of (reply_to form Two (run.sum_one round))))
  pub ceiling : IsCeiling form (run.sum_two round) (evaluation_in form run round).high
  pub ceiling_attained : AttainsCeiling form (run.sum_two round) (evaluation_in form run round).high
      (pure_plan form.sets_one (choices_of (reply_to form One (run.sum_two round))))

abbrev pub WeighedEvaluationsAreBounds : Type 0
WeighedEvaluationsAreBounds = (form : SequenceForm) (root : ℕ) (run : WeighedRun) (round : ℕ) → AreInOrder form.sets_one
    → AreInOrder form.sets_two → SumsPlans form root run → 1 ≤ round → IsWorthItsBoundsIn form root run round

-- an end is the evaluation after its own round, which is an evaluated one
pub record IsEndIn (form : SequenceForm) (run : WeighedRun) (every last : ℕ) (end : Evaluation) : Type 0 where
  pub is : end ≡ evaluation_in form run end.round
  pub some : 1 ≤ end.round
  pub in_time : end.round ≤ last
  pub evaluated : (end.round % every ≡ 0) ⊎ (end.round ≡ last)

-- the lower end is the earliest evaluation with the greatest floor, and the upper end the earliest with the least
-- ceiling, each divided by what its rounds weigh
pub record AreBestEndsIn (form : SequenceForm) (run : WeighedRun) (every last : ℕ) (ends : BracketEnds) : Type 0 where
  pub of_lower : IsEndIn form run every last ends.lower
  pub of_upper : IsEndIn form run every last ends.upper
  pub lower : IsLowerEnd (evaluations_in form run every last) ends.lower
  pub upper : IsUpperEnd (evaluations_in form run every last) ends.upper

abbrev pub WeighedEndsAreTheEarliestBest : Type 0
WeighedEndsAreTheEarliestBest = (form : SequenceForm) (run : WeighedRun) (every last : ℕ) (ends : BracketEnds)
    → HasWeights run → ends_of (evaluations_in form run every last) ≡ Some ends
    → AreBestEndsIn form run every last ends

-- at the ends stand a plan of player one with its attained floor and a plan of player two with its attained ceiling
pub record AreBoundsIn (form : SequenceForm) (root : ℕ) (run : WeighedRun) (ends : BracketEnds) : Type 0 where
  pub lower_plan : IsPlan form.sets_one (run.weight ends.lower.round * root) (lower_plan_in run ends)
  pub floor : IsFloor form (lower_plan_in run ends) ends.lower.low
  pub floor_attained : AttainsFloor form (lower_plan_in run ends) ends.lower.low
      (pure_plan form.sets_two (choices_of (reply_to form Two (lower_plan_in run ends))))
  pub upper_plan : IsPlan form.sets_two (run.weight ends.upper.round * root) (upper_plan_in run ends)
  pub ceiling : IsCeiling form (upper_plan_in run ends) ends.upper.high
  pub ceiling_attained : AttainsCeiling form (upper_plan_in run ends) ends.upper.high
      (pure_plan form.sets_one (choices_of (reply_to form One (upper_plan_in run ends))))

abbrev pub WeighedEndsAreBounds : Type 0
WeighedEndsAreBounds = (form : SequenceForm) (root : ℕ) (run : WeighedRun) (every last : ℕ) (ends : BracketEnds)
    → AreInOrder form.sets_one → AreInOrder form.sets_two → SumsPlans form root run
    → ends_of (evaluations_in form run every last) ≡ Some ends → AreBoundsIn form root run ends

-- a run of at least one round has ends
abbrev pub WeighedRunsHaveEnds : Type 0
WeighedRunsHaveEnds = (form : SequenceForm) (run : WeighedRun) (every last : ℕ) → 1 ≤ last
    → (ends : BracketEnds) × (ends_of (evaluations_in form run every last) ≡ Some ends)

-- and the lower one is at most the upper one, each divided by what its rounds weigh
abbrev pub WeighedEndsAreInOrder : Type 0
WeighedEndsAreInOrder = (form : SequenceForm) (root : ℕ) (run : WeighedRun) (every last : ℕ) (ends : BracketEnds)
    → AreInOrder form.sets_one → AreInOrder form.sets_two → 1 ≤ root → SumsPlans form root run
    → ends_of (evaluations_in form run every last) ≡ Some ends
    → (ends.lower.low *ℤ pos (run.weight ends.upper.round)) ≤ℤ (ends.upper.high *ℤ pos (run.weight ends.lower.round))

-- no line of the trace is wider than an earlier one, and the ends of each come from rounds up to its own
abbrev pub WeighedTraceNeverWidens : Type 0
WeighedTraceNeverWidens = (form : SequenceForm) (run : WeighedRun) (every last j k : ℕ) (line : TraceLine)
    → HasWeights run → j ≤ k → k < length (trace (evaluations_in form run every last))
    → let lines = trace (evaluations_in form run every last) in
    LiesWithinBy run.weight (slice_index_or lines k line) (slice_index_or lines j line)

abbrev pub WeighedTraceLooksBack : Type 0
WeighedTraceLooksBack = (form : SequenceForm) (run : WeighedRun) (every last : ℕ)
    → All LooksBack (trace (evaluations_in form run every last))

-- the gap between the ends, each over its plan's root, is the total exploitability of the two plans
abbrev pub GapOfWeighedRunIsExploitability : Type 0
GapOfWeighedRunIsExploitability = (form : SequenceForm) (root : ℕ) (run : WeighedRun) (every last : ℕ)
    (ends : BracketEnds) → AreInOrder form.sets_one → AreInOrder form.sets_two → SumsPlans form root run
    → ends_of (evaluations_in form run every last) ≡ Some ends
    → IsExploitability form (run.weight ends.lower.round * root) (run.weight ends.upper.round * root)
    (lower_plan_in run ends) (upper_plan_in run ends)
    ((pos (run.weight ends.lower.round * root) *ℤ ends.upper.high)
    -ℤ (pos (run.weight ends.upper.round * root) *ℤ ends.lower.low))

-- no plan of player one has a floor that, over its root, exceeds the upper end, and no plan of player two has a ceiling
-- that is below the lower end
pub record WeighedEndsBoundAllPlans : Type 0 where
  pub floors : (form : SequenceForm) (root : ℕ) (run : WeighedRun) (every last : ℕ) (ends : BracketEnds) (plan_root : ℕ)
      (plan_one : List ℕ) (floor : ℤ)
      → AreInOrder form.sets_one → AreInOrder form.sets_two → SumsPlans form root run
      → ends_of (evaluations_in form run every last) ≡ Some ends
      → IsPlan form.sets_one plan_root plan_one → IsFloor form plan_one floor
      → (pos (run.weight ends.upper.round * root) *ℤ floor) ≤ℤ (pos plan_root *ℤ ends.upper.high)
  pub ceilings : (form : SequenceForm) (root : ℕ) (run : WeighedRun) (every last : ℕ) (ends : BracketEnds)
      (plan_root : ℕ) (plan_two : List ℕ) (ceiling : ℤ)
      → AreInOrder form.sets_one → AreInOrder form.sets_two → SumsPlans form root run
      → ends_of (evaluations_in form run every last) ≡ Some ends
      → IsPlan form.sets_two plan_root plan_two → IsCeiling form plan_two ceiling
      → (pos plan_root *ℤ ends.lower.low) ≤ℤ (pos (run.weight ends.lower.round * root) *ℤ ceiling)

-- within the limits each offer is fair
abbrev pub WeighedOffersAreFair : Type 0
WeighedOffersAreFair = (form : SequenceForm) (root : ℕ) (run : WeighedRun) (round : ℕ) → SumsPlans form root run
    → 1 ≤ root → 1 ≤ round → round ≤ most_rounds → run.weight round ≤ most_divisor
    → run.weight round * root ≤ most_root → (last : ℕ) → last < round
    → IsFair form last (offer_in form run round)

-- the outcome has the head, the trace of the evaluations and, where a round was asked, the sums of plans at both ends
-- of the bracket with the best replies to them
pub record HasPlansIn (form : SequenceForm) (run : WeighedRun) (ends : BracketEnds) (shown : OutcomeEnds) : Type 0 where
  pub lower_plan : shown.lower.plan ≡ lower_plan_in run ends
  pub lower_reply : shown.lower.reply ≡ best_reply_to form Two (lower_plan_in run ends)
  pub upper_plan : shown.upper.plan ≡ upper_plan_in run ends
  pub upper_reply : shown.upper.reply ≡ best_reply_to form One (upper_plan_in run ends)

pub record WeighedOutcomesShowTheirRun : Type 0 where
  pub head : (form : SequenceForm) (run : WeighedRun) (head : Head) → (outcome_in form run head).head ≡ head
  pub trace : (form : SequenceForm) (run : WeighedRun) (head : Head)
      → (outcome_in form run head).trace ≡ trace (evaluations_in form run head.every head.rounds)
  pub no_ends : (form : SequenceForm) (run : WeighedRun) (head : Head) → head.rounds ≡ 0
      → (outcome_in form run head).ends ≡ None
  pub ends : (form : SequenceForm) (run : WeighedRun) (head : Head) (ends : BracketEnds)
      → ends_of (evaluations_in form run head.every head.rounds) ≡ Some ends
      → (shown : OutcomeEnds) × ((outcome_in form run head).ends ≡ Some shown) × HasPlansIn form run ends shown
