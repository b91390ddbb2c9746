-- The laws of closing brackets. Each is the contract of a function of this crate.
use Rattle.std.specs.Prelude.{◌≡◌, ℕ, ◌+◌, ◌*◌, ◌≤◌, ◌<◌, min, length, slice_index_or, Some}
use Rattle.std.specs.Prelude.{ℤ, pos, ◌+ℤ◌, ◌≤ℤ◌}
use Rattle.def_tree.specs.declared.Player.{Player}
use Rattle.def_tree.specs.declared.Player.TheVariants.{One, Two}
use Rattle.def_plan.specs.Form.{PlacedSet, AreInOrder, SequenceForm, player_sets}
use Rattle.def_plan.specs.Payoff.{mass_of}
use Rattle.def_reply.specs.Bracket.{BracketEnds, ends_of, trace}
use Rattle.def_reply.specs.declared.TraceLine.{TraceLine}
use Rattle.def_run.specs.Run.{evaluation, evaluations}
use Rattle.def_plus.specs.Weights.{total_weight}
use Rattle.def_plus_run.specs.PlusRun.{plus_evaluation, plus_evaluations}
use Rattle.def_closing.specs.Width.{root_up, IsSpread, PaysWithin, width_bound, plus_width_bound, size_after, gap_at}
use Rattle.def_closing.specs.Width.{closing_width, plus_closing_width, reached_width, shrinking, lasting}
use Rattle.def_closing.specs.Width.{AreEndsWithin, IsLineWithin}

-- a number is at most the square of its root, rounded up
abbrev pub RootsAreUp : Type 0
RootsAreUp = (n : ℕ) → n ≤ root_up n * root_up n

-- and no smaller number is so
abbrev pub RootsAreLeast : Type 0
RootsAreLeast = (n r : ℕ) → n ≤ r * r → root_up n ≤ r

-- ---- spreads

-- both players' sets are in order
abbrev pub AreInOrderBoth : SequenceForm → Type 0
AreInOrderBoth form = (player : Player) → AreInOrder (player_sets form player)

-- spreads that every game has: the mass, and at each set the sizes of the weights of all leaves after it
abbrev pub MassIsSpread : Type 0
MassIsSpread = (player : Player) (form : SequenceForm) → AreInOrderBoth form
    → IsSpread player form (λ h. mass_of form.leaves)

abbrev pub SizesAreSpread : Type 0
SizesAreSpread = (player : Player) (form : SequenceForm) → AreInOrderBoth form
    → IsSpread player form (size_after player form)

-- and the most that an action can be worth more than another, against the best that the other player can do for it
abbrev pub GapsAreSpread : Type 0
GapsAreSpread = (player : Player) (form : SequenceForm) → AreInOrderBoth form
    → IsSpread player form (gap_at player form)

-- so is the range of what plans pay (the range of payoffs, in Zinkevich and others)
abbrev pub RangeIsSpread : Type 0
RangeIsSpread = (player : Player) (form : SequenceForm) (low high : ℤ) (width : ℕ) → AreInOrderBoth form
    → PaysWithin form low high → high ≡ low +ℤ pos width → IsSpread player form (λ h. width)

-- and so is at each set the lesser of two spreads
abbrev pub LesserIsSpread : Type 0
LesserIsSpread = (player : Player) (form : SequenceForm) (spread other : PlacedSet → ℕ)
    → IsSpread player form spread → IsSpread player form other
    → IsSpread player form (λ h. min (spread h) (other h))

-- ---- widths

-- after some rounds the ceiling of player two's sum of plans is above the floor of player one's by at most the bound,
-- which is known before they are played
abbrev pub EvaluationsClose : Type 0
EvaluationsClose = (form : SequenceForm) (root last : ℕ) (spread_one spread_two : PlacedSet → ℕ)
    → AreInOrder form.sets_one → AreInOrder form.sets_two → 1 ≤ root → 1 ≤ last
    → IsSpread One form spread_one → IsSpread Two form spread_two
    → (evaluation form root last).high
    ≤ℤ ((evaluation form root last).low +ℤ pos (width_bound form root spread_one spread_two last))

-- so the ends of a run's bracket are no further apart than the bound of its last round: over the unit, the scale and
-- the last round
abbrev pub BracketsClose : Type 0
BracketsClose = (form : SequenceForm) (root every last : ℕ) (spread_one spread_two : PlacedSet → ℕ) (ends : BracketEnds)
    → AreInOrder form.sets_one → AreInOrder form.sets_two → 1 ≤ root → 1 ≤ last
    → IsSpread One form spread_one → IsSpread Two form spread_two
    → ends_of (evaluations form root every last) ≡ Some ends
    → AreEndsWithin (λ round. round) last (width_bound form root spread_one spread_two last) ends

-- the same of CFR+
abbrev pub PlusEvaluationsClose : Type 0
PlusEvaluationsClose = (form : SequenceForm) (root last : ℕ) (spread_one spread_two : PlacedSet → ℕ)
    → AreInOrder form.sets_one → AreInOrder form.sets_two → 1 ≤ root → 1 ≤ last
    → IsSpread One form spread_one → IsSpread Two form spread_two
    → (plus_evaluation form root last).high
    ≤ℤ ((plus_evaluation form root last).low +ℤ pos (plus_width_bound form root spread_one spread_two last))

abbrev pub PlusBracketsClose : Type 0
PlusBracketsClose = (form : SequenceForm) (root every last : ℕ) (spread_one spread_two : PlacedSet → ℕ)
    (ends : BracketEnds) → AreInOrder form.sets_one → AreInOrder form.sets_two → 1 ≤ root → 1 ≤ last
    → IsSpread One form spread_one → IsSpread Two form spread_two
    → ends_of (plus_evaluations form root every last) ≡ Some ends
    → AreEndsWithin total_weight last (plus_width_bound form root spread_one spread_two last) ends

-- so on every game, before its rounds are played, its numbers alone bound how wide the bracket can be after them
abbrev pub ClosingWidth : Type 0
ClosingWidth = (form : SequenceForm) (root every last : ℕ) (ends : BracketEnds) → AreInOrderBoth form → 1 ≤ root
    → 1 ≤ last → ends_of (evaluations form root every last) ≡ Some ends
    → AreEndsWithin (λ round. round) last (closing_width form root last) ends

abbrev pub PlusClosingWidth : Type 0
PlusClosingWidth = (form : SequenceForm) (root every last : ℕ) (ends : BracketEnds) → AreInOrderBoth form → 1 ≤ root
    → 1 ≤ last → ends_of (plus_evaluations form root every last) ≡ Some ends
    → AreEndsWithin total_weight last (plus_closing_width form root last) ends

-- and the width by the sets that one plan reaches holds as well
abbrev pub ReachedWidth : Type 0
ReachedWidth = (form : SequenceForm) (root every last : ℕ) (spread_one spread_two : PlacedSet → ℕ) (ends : BracketEnds)
    → AreInOrderBoth form → 1 ≤ root → 1 ≤ last → IsSpread One form spread_one → IsSpread Two form spread_two
    → ends_of (evaluations form root every last) ≡ Some ends
    → AreEndsWithin (λ round. round) last (reached_width form root spread_one spread_two last) ends

-- after t * t rounds the width, over the rounds, is at most what shrinks over t, and what lasts
abbrev pub WidthsShrink : Type 0
WidthsShrink = (form : SequenceForm) (root t : ℕ) (spread_one spread_two : PlacedSet → ℕ)
    → width_bound form root spread_one spread_two (t * t)
    ≤ t * (shrinking root spread_one form.sets_one + shrinking root spread_two form.sets_two)
    + t * t * (lasting root spread_one form.sets_one + lasting root spread_two form.sets_two)

-- each line of the trace is no wider than the bound of its own round
abbrev pub LinesClose : Type 0
LinesClose = (form : SequenceForm) (root every last k : ℕ) (line : TraceLine) → AreInOrderBoth form → 1 ≤ root
    → let lines = trace (evaluations form root every last) in
    k < length lines → IsLineWithin (λ round. round) (closing_width form root) (slice_index_or lines k line)

abbrev pub PlusLinesClose : Type 0
PlusLinesClose = (form : SequenceForm) (root every last k : ℕ) (line : TraceLine) → AreInOrderBoth form → 1 ≤ root
    → let lines = trace (plus_evaluations form root every last) in
    k < length lines → IsLineWithin total_weight (plus_closing_width form root) (slice_index_or lines k line)
