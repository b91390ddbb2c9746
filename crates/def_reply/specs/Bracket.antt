-- The bracket: of the evaluated average strategies (Zinkevich, Johanson, Bowling and Piccione 2007) the ones with the
-- best bounds, and a line for each evaluation.
-- The average after t rounds is the sum of t plans, so a bound of the sum is compared after division by t. An
-- evaluation says apart from its round by what its bounds are divided,
-- since a round may count in the sum more than once.
use Rattle.std.specs.Prelude.{◌≡◌, ℕ, ◌%◌, ◌<◌, ◌==◌, ◌||◌, List, [], ◌∷◌, length, take, filter, fold, slice_index_or}
use Rattle.std.specs.Prelude.{All, ℤ, pos, ◌*ℤ◌, ◌≤ℤ◌, ◌<ℤ◌, int_lt, Option, Some, None, if◌then◌else◌}
use Rattle.std.specs.List.{range_with_len}
use Rattle.def_reply.specs.declared.TraceLine.{TraceLine}

-- the rounds that are evaluated: each multiple of `every` up to the last round, and the last
abbrev pub evaluated_rounds : ℕ → ℕ → List ℕ
evaluated_rounds every last = filter (λ k. (k % every == 0) || (k == last)) (range_with_len 1 last)

-- an evaluation after a round: by what its bounds are divided, the floor of player one's sum of plans,
-- and the ceiling of player two's
pub record Evaluation : Type 0 where
  pub round : ℕ
  pub divisor : ℕ
  pub low : ℤ
  pub high : ℤ

-- a's floor is below b's, each divided by its divisor; it is at most b's
abbrev pub HasLowerFloor : Evaluation → Evaluation → Type 0
HasLowerFloor a b = (a.low *ℤ pos b.divisor) <ℤ (b.low *ℤ pos a.divisor)

abbrev pub HasFloorAtMost : Evaluation → Evaluation → Type 0
HasFloorAtMost a b = (a.low *ℤ pos b.divisor) ≤ℤ (b.low *ℤ pos a.divisor)

-- the same of ceilings
abbrev pub HasLowerCeiling : Evaluation → Evaluation → Type 0
HasLowerCeiling a b = (a.high *ℤ pos b.divisor) <ℤ (b.high *ℤ pos a.divisor)

abbrev pub HasCeilingAtMost : Evaluation → Evaluation → Type 0
HasCeilingAtMost a b = (a.high *ℤ pos b.divisor) ≤ℤ (b.high *ℤ pos a.divisor)

-- the lower end comes from the evaluation with the greatest floor, the upper end from that with the least ceiling
pub record BracketEnds : Type 0 where
  pub lower : Evaluation
  pub upper : Evaluation

-- an end is replaced only by a better one, so of equals the earliest is kept
abbrev pub higher_floor : Evaluation → Evaluation → Evaluation
higher_floor kept next = if int_lt (kept.low *ℤ pos next.divisor) (next.low *ℤ pos kept.divisor) then next else kept

abbrev pub lower_ceiling : Evaluation → Evaluation → Evaluation
lower_ceiling kept next = if int_lt (next.high *ℤ pos kept.divisor) (kept.high *ℤ pos next.divisor) then next else kept

abbrev pub next_ends : BracketEnds → Evaluation → BracketEnds
next_ends ends e = record { lower = higher_floor ends.lower e; upper = lower_ceiling ends.upper e }

abbrev pub first_ends : Evaluation → BracketEnds
first_ends e = record { lower = e; upper = e }

-- the ends after some evaluations, if there was one
abbrev pub ends_of : List Evaluation → Option BracketEnds
ends_of [] = None
ends_of (e ∷ es) = Some (fold next_ends (first_ends e) es)

-- what is traced after an evaluation: its round, and both ends with the rounds that they come from
abbrev pub trace_line : ℕ → BracketEnds → TraceLine
trace_line round ends = record {
  round = round;
  low_round = ends.lower.round;
  low = ends.lower.low;
  high_round = ends.upper.round;
  high = ends.upper.high;
}

abbrev pub trace_after : BracketEnds → List Evaluation → List TraceLine
trace_after ends [] = []
trace_after ends (e ∷ es) = trace_line e.round (next_ends ends e) ∷ trace_after (next_ends ends e) es

abbrev pub trace : List Evaluation → List TraceLine
trace [] = []
trace (e ∷ es) = trace_line e.round (first_ends e) ∷ trace_after (first_ends e) es

-- e is the evaluation with the greatest floor, and each one before it has a lower one
pub record IsLowerEnd (evaluations : List Evaluation) (e : Evaluation) : Type 0 where
  pub place : ℕ
  pub within : place < length evaluations
  pub stands : (d : Evaluation) → slice_index_or evaluations place d ≡ e
  pub greatest : All (λ a. HasFloorAtMost a e) evaluations
  pub earliest : All (λ a. HasLowerFloor a e) (take place evaluations)

-- e is the evaluation with the least ceiling, and each one before it has a higher one
pub record IsUpperEnd (evaluations : List Evaluation) (e : Evaluation) : Type 0 where
  pub place : ℕ
  pub within : place < length evaluations
  pub stands : (d : Evaluation) → slice_index_or evaluations place d ≡ e
  pub least : All (λ a. HasCeilingAtMost e a) evaluations
  pub earliest : All (λ a. HasLowerCeiling e a) (take place evaluations)

-- the bracket of a line lies within that of an earlier one, where a bound is divided by what the rounds up to its own
-- weigh
pub record LiesWithinBy (weight : ℕ → ℕ) (later earlier : TraceLine) : Type 0 where
  pub not_lower : (earlier.low *ℤ pos (weight later.low_round)) ≤ℤ (later.low *ℤ pos (weight earlier.low_round))
  pub not_higher : (later.high *ℤ pos (weight earlier.high_round)) ≤ℤ (earlier.high *ℤ pos (weight later.high_round))

-- the same where each round weighs 1
abbrev pub LiesWithin : TraceLine → TraceLine → Type 0
LiesWithin later earlier = LiesWithinBy (λ round. round) later earlier
