-- The ranges of a certificate's numbers, which its text may not leave.
-- Whoever wrote a certificate, one that is read is within them.
use Rattle.std.specs.Prelude.{◌≡◌, ℕ, ◌+◌, ◌-◌, ◌*◌, ◌/◌, ◌≤◌, ◌<◌, min, List, length, slice_index_or, All, ℤ}
use Rattle.std.specs.Prelude.{unsigned_abs, Option, Some, None}
use Rattle.def_fraction.specs.Fraction.{Fraction, IsInLowestTerms, most}
use Rattle.def_tree.specs.Rules.{most_actions, most_nodes}
use Rattle.def_sums.specs.Limits.{most_mass, most_rounds, most_scale, most_root}
use Rattle.def_reply.specs.Reply.{Reply}
use Rattle.def_reply.specs.declared.TraceLine.{TraceLine}
use Rattle.def_reply.specs.Outcome.{Head}
use Rattle.def_cert_verdict.specs.declared.ranges.TheConstants.{MOST_PRINTED}
use Rattle.def_cert_verdict.specs.Certificate.{PrintedPlan, PrintedBounds, Certificate}

abbrev pub IsFromTo : ℕ → ℕ → ℕ → Type 0
IsFromTo low high n = (low ≤ n) × (n ≤ high)

-- ends, totals and values, and the parts of the bracket
abbrev pub most_printed : ℕ
most_printed = MOST_PRINTED

-- the size of an end times a round
abbrev pub most_line_product : ℕ
most_line_product = most_printed * most_rounds

abbrev pub IsPrintable : ℤ → Type 0
IsPrintable n = unsigned_abs n ≤ most_printed

-- a fraction in lowest terms whose parts are of this size at most
pub record FractionFits (limit : ℕ) (f : Fraction) : Type 0 where
  pub lowest : IsInLowestTerms f
  pub num : unsigned_abs f.num ≤ limit
  pub den : f.den ≤ limit

-- ---- parts
pub record HeadFits (head : Head) : Type 0 where
  pub nodes : IsFromTo 1 most_nodes head.nodes
  pub leaves : IsFromTo 1 most_nodes head.leaves
  pub sets_one : head.sets_one ≤ most_nodes
  pub sets_two : head.sets_two ≤ most_nodes
  pub sequences_one : IsFromTo 1 most_nodes head.sequences_one
  pub sequences_two : IsFromTo 1 most_nodes head.sequences_two
  pub unit : IsFromTo 1 most head.unit
  pub sum : FractionFits most head.sum
  pub mass : head.mass ≤ most_mass
  pub rounds : head.rounds ≤ most_rounds
  pub every : IsFromTo 1 most_rounds head.every
  pub scale : IsFromTo 1 most_scale head.scale

-- the line of the place k, from 0: its round is the one that is evaluated there,
-- and its ends come from a round up to it
pub record LineFits (head : Head) (k : ℕ) (line : TraceLine) : Type 0 where
  pub round : line.round ≡ min ((k + 1) * head.every) head.rounds
  pub low_round : IsFromTo 1 line.round line.low_round
  pub low : IsPrintable line.low
  pub high_round : IsFromTo 1 line.round line.high_round
  pub high : IsPrintable line.high

-- a line for each evaluation: rounds over `every`, rounded up
pub record TraceFits (head : Head) (lines : List TraceLine) : Type 0 where
  pub count : length lines ≡ (head.rounds + head.every - 1) / head.every
  pub each : (k : ℕ) (line : TraceLine) → k < length lines → LineFits head k (slice_index_or lines k line)

-- the numbers of a set: at least one
pub record PlanWeightsFit (weights : List ℕ) : Type 0 where
  pub count : IsFromTo 1 most_actions (length weights)
  pub each : All (λ n. n ≤ most_root) weights

pub record PlanFits (sets : ℕ) (plan : PrintedPlan) : Type 0 where
  pub root : IsFromTo 1 most_root plan.root
  pub count : length plan.weights ≡ sets
  pub each : All PlanWeightsFit plan.weights

pub record ReplyFits (sets : ℕ) (reply : Reply) : Type 0 where
  pub total : IsPrintable reply.total
  pub count : length reply.sets ≡ sets
  pub values : All (λ r. IsPrintable r.value) reply.sets
  pub choices : All (λ r. IsFromTo 1 most_actions r.choice) reply.sets

abbrev pub BoundFits : Fraction → Type 0
BoundFits bound = FractionFits most_printed bound

-- ---- the whole
pub record BoundsFit (head : Head) (b : PrintedBounds) : Type 0 where
  pub asked : 1 ≤ head.rounds
  pub trace : TraceFits head b.trace
  pub plan_one : PlanFits head.sets_one b.plan_one
  pub reply_two : ReplyFits head.sets_two b.reply_two
  pub plan_two : PlanFits head.sets_two b.plan_two
  pub reply_one : ReplyFits head.sets_one b.reply_one
  pub low : BoundFits b.low
  pub high : BoundFits b.high

-- without a round there are no bounds
abbrev pub FitsBelowHead : Head → Option PrintedBounds → Type 0
FitsBelowHead head None = head.rounds ≡ 0
FitsBelowHead head (Some b) = BoundsFit head b

pub record CertificateFits (c : Certificate) : Type 0 where
  pub head : HeadFits c.head
  pub below : FitsBelowHead c.head c.bounds
