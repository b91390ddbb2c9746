-- What holds of the bracket. Each is the contract of a function of this crate.
use Rattle.std.specs.Prelude.{◌≡◌, ℕ, ◌+◌, ◌-◌, ◌*◌, ◌/◌, ◌%◌, ◌^◌, ◌≤◌, ◌<◌, min, ◌⊎◌, ◌↔◌, List, [], ◌∷◌, ◌++◌, map}
use Rattle.std.specs.Prelude.{length, take, slice_index_or, All, Contains, ℤ, pos, ◌*ℤ◌, unsigned_abs, Some}
use Rattle.std.specs.List.{range_with_len}
use Rattle.std.specs.List.Sorted.{IsStrictlyIncreasing}
use Rattle.def_sums.specs.Limits.{most_rounds, most_row}
use Rattle.def_reply.specs.Bracket.{evaluated_rounds, Evaluation, HasFloorAtMost, HasCeilingAtMost, BracketEnds}
use Rattle.def_reply.specs.Bracket.{next_ends, first_ends, ends_of, trace_line, trace, IsLowerEnd, IsUpperEnd}
use Rattle.def_reply.specs.Bracket.{LiesWithinBy}
use Rattle.def_reply.specs.declared.TraceLine.{TraceLine}

-- no divisor is 0
abbrev pub HaveDivisors : List Evaluation → Type 0
HaveDivisors evaluations = All (λ e. 1 ≤ e.divisor) evaluations

-- each evaluation is divided by what the rounds up to its own weigh, which isn't 0
abbrev pub DivideBy : (ℕ → ℕ) → List Evaluation → Type 0
DivideBy weight evaluations = All (λ e. (1 ≤ e.divisor) × (e.divisor ≡ weight e.round)) evaluations

-- rounds rise from one evaluation to the next
abbrev pub RoundsRise : List Evaluation → Type 0
RoundsRise evaluations = IsStrictlyIncreasing (map (λ e. e.round) evaluations)

-- the ends are the earliest best ones, and there are no others
pub record EndsAreTheEarliestBest : Type 0 where
  pub lower : (evaluations : List Evaluation) (ends : BracketEnds) → HaveDivisors evaluations
      → ends_of evaluations ≡ Some ends → IsLowerEnd evaluations ends.lower
  pub upper : (evaluations : List Evaluation) (ends : BracketEnds) → HaveDivisors evaluations
      → ends_of evaluations ≡ Some ends → IsUpperEnd evaluations ends.upper
  pub lower_only : (evaluations : List Evaluation) (e f : Evaluation) → IsLowerEnd evaluations e
      → IsLowerEnd evaluations f → e ≡ f
  pub upper_only : (evaluations : List Evaluation) (e f : Evaluation) → IsUpperEnd evaluations e
      → IsUpperEnd evaluations f → e ≡ f

-- each evaluation appends one line, with its round and the ends of the evaluations so far
pub record TraceHasALineForEach : Type 0 where
  pub count : (evaluations : List Evaluation) → length (trace evaluations) ≡ length evaluations
  pub begins : (e : Evaluation)
      → (ends_of (e ∷ []) ≡ Some (first_ends e)) × (trace (e ∷ []) ≡ trace_line e.round (first_ends e) ∷ [])
  pub goes_on : (evaluations : List Evaluation) (ends : BracketEnds) (e : Evaluation) → ends_of evaluations ≡ Some ends
      → (ends_of (evaluations ++ e ∷ []) ≡ Some (next_ends ends e))
      × (trace (evaluations ++ e ∷ []) ≡ trace evaluations ++ trace_line e.round (next_ends ends e) ∷ [])
  pub each : (evaluations : List Evaluation) (k : ℕ) (ends : BracketEnds) (line : TraceLine) (e : Evaluation)
      → k < length evaluations → ends_of (take (k + 1) evaluations) ≡ Some ends
      → slice_index_or (trace evaluations) k line ≡ trace_line (slice_index_or evaluations k e).round ends

-- the ends of more evaluations are no worse than those of the first of them
pub record AreNoWorse (earlier later : BracketEnds) : Type 0 where
  pub lower : HasFloorAtMost earlier.lower later.lower
  pub upper : HasCeilingAtMost later.upper earlier.upper

abbrev pub EndsNeverWorsen : Type 0
EndsNeverWorsen =
    (evaluations : List Evaluation) (j k : ℕ) (earlier later : BracketEnds) → HaveDivisors evaluations → j ≤ k
    → k ≤ length evaluations
    → ends_of (take j evaluations) ≡ Some earlier → ends_of (take k evaluations) ≡ Some later → AreNoWorse earlier later

-- so where bounds are divided by what their rounds weigh no line is wider than an earlier one
abbrev pub TraceNeverWidens : Type 0
TraceNeverWidens =
    (weight : ℕ → ℕ) (evaluations : List Evaluation) (j k : ℕ) (line : TraceLine) → DivideBy weight evaluations → j ≤ k
    → k < length evaluations
    → LiesWithinBy weight (slice_index_or (trace evaluations) k line) (slice_index_or (trace evaluations) j line)

-- the ends of a line come from rounds up to its own
pub record LooksBack (line : TraceLine) : Type 0 where
  pub low_some : 1 ≤ line.low_round
  pub low_until : line.low_round ≤ line.round
  pub high_some : 1 ≤ line.high_round
  pub high_until : line.high_round ≤ line.round

abbrev pub TraceLooksBack : Type 0
TraceLooksBack = (evaluations : List Evaluation) → All (λ e. 1 ≤ e.round) evaluations → RoundsRise evaluations
    → All LooksBack (trace evaluations)

-- the evaluated rounds in order; the i-th of them is i times `every` or the last round
pub record RoundsAreEvaluated : Type 0 where
  pub which : (every last k : ℕ)
      → Contains (evaluated_rounds every last) k ↔ ((1 ≤ k) × (k ≤ last) × ((k % every ≡ 0) ⊎ (k ≡ last)))
  pub in_order : (every last : ℕ) → IsStrictlyIncreasing (evaluated_rounds every last)
  pub one_by_one : (every last : ℕ) → 1 ≤ every
      → evaluated_rounds every last ≡ map (λ i. min (i * every) last) (range_with_len 1 ((last + every - 1) / every))

-- a bound of an evaluation times a round is below 2^115 in size
abbrev pub BracketProductsAreSmall : Type 0
BracketProductsAreSmall = (bound : ℤ) (round : ℕ) → unsigned_abs bound ≤ most_row → round ≤ most_rounds
    → unsigned_abs (bound *ℤ pos round) < 2 ^ 115
