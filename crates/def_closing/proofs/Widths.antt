-- The widths that every game has, and how they shrink.
use Rattle.std.proofs.Common.{ℕ, ◌+◌, ◌-◌, ◌*◌, ◌≤◌, List, [], ◌∷◌, arith}
use Rattle.std.proofs.Math.Nat.{mul-le-mul_left}
use Rattle.def_sums.specs.Sum.{nat_sum_over}
use Rattle.def_plan.specs.Form.{PlacedSet, placed}
use Rattle.def_tree.specs.declared.Player.{Player}
use Rattle.def_tree.specs.declared.Player.TheVariants.{One, Two}
use Rattle.def_plan.specs.Form.{SequenceForm}
use Rattle.def_closing.proofs.Roots.{roots_are_up, roots_are_least}
use Rattle.def_closing.specs.Width.{IsSpread, root_up, spread_sum, drift, regret_bound, size_after, gap_at, form_spread}
use Rattle.def_closing.specs.Laws.{AreInOrderBoth, ClosingWidth, PlusClosingWidth, WidthsShrink, LinesClose, PlusLinesClose}
use Rattle.def_closing.proofs.Spreads.{sizes_are_spread, lesser_is_spread}
use Rattle.def_closing.proofs.Gaps.{gaps_are_spread}
use Rattle.def_closing.proofs.Ends.{brackets_close, line_closes_in}
use Rattle.def_closing.proofs.Closing.{evaluations_close}
use Rattle.def_reply.proofs.TraceLines.{trace_lines}
use Rattle.def_run.specs.Run.{plain_run, evaluations_in}
use Rattle.def_plus_run.specs.PlusRun.{plus_run}
use Rattle.def_plus_run.proofs.PlusRuns.{plus_runs_sum_plans}
use Rattle.def_closing.specs.Width.{closing_width, plus_closing_width}
use Rattle.def_closing.proofs.PlusClosing.{plus_brackets_close, plus_evaluations_close}

pub form_spread_is : (player : Player) (form : SequenceForm) → AreInOrderBoth form → IsSpread player form (form_spread player form)
form_spread_is player form order =
    lesser_is_spread player form (gap_at player form) (size_after player form) (gaps_are_spread player form order) (sizes_are_spread player form order)

-- a run of plain rounds closes to the width
pub closes : ClosingWidth
closes form root every last ends order some some_round are =
    brackets_close form root every last (form_spread One form) (form_spread Two form) ends (order One) (order Two) some some_round
    (form_spread_is One form order) (form_spread_is Two form order) are

-- and a run of CFR+ to its own
pub plus_closes : PlusClosingWidth
plus_closes form root every last ends order some some_round are =
    plus_brackets_close form root every last (form_spread One form) (form_spread Two form) ends (order One) (order Two) some some_round
    (form_spread_is One form order) (form_spread_is Two form order) are

-- a root of a square's multiple
root_of_square : (t n : ℕ) → root_up (t * t * n) ≤ t * root_up n
root_of_square t n =
    let r : ℕ = root_up n in
    let more : t * t * n ≤ t * t * (r * r) = mul-le-mul_left (t * t) (roots_are_up n) in
    roots_are_least (t * t * n) (t * r) (omega arith)

at_set : (root t : ℕ) (spread : PlacedSet → ℕ) (h : PlacedSet)
    → regret_bound (t * t) root spread h ≤ t * (root * spread h * root_up (h.actions - 1)) + t * t * (drift root spread h * root_up h.actions)
at_set root t spread h =
    let more : root * spread h * root_up (t * t * (h.actions - 1)) ≤ root * spread h * (t * root_up (h.actions - 1)) =
    mul-le-mul_left (root * spread h) (root_of_square t (h.actions - 1)) in
    omega arith

at_sets : (root t : ℕ) (spread : PlacedSet → ℕ) (hs : List PlacedSet)
    → nat_sum_over (regret_bound (t * t) root spread) hs + t * t * nat_sum_over (spread_sum spread) hs
    ≤ t * nat_sum_over (λ h. root * spread h * root_up (h.actions - 1)) hs + t * t * nat_sum_over
    (λ h. drift root spread h * root_up h.actions + spread_sum spread h) hs
at_sets root t spread [] = omega arith
at_sets root t spread (h ∷ hs) = omega (arith, at_set root t spread h, at_sets root t spread hs)

-- what shrinks does so with the root of the rounds
pub widths_shrink : WidthsShrink
widths_shrink form root t spread_one spread_two =
    omega (arith, at_sets root t spread_one (placed form.sets_one), at_sets root t spread_two (placed form.sets_two))

-- ---- lines of the trace
pub lines_close : LinesClose
lines_close form root every last k line order some there =
    line_closes_in form (plain_run form root) every last k (closing_width form root) line (λ round one. one)
    (λ n one. evaluations_close form root n (form_spread One form) (form_spread Two form) (order One) (order Two) some one (form_spread_is One form order)
    (form_spread_is Two form order))
    (omega (arith, trace_lines.count (evaluations_in form (plain_run form root) every last)))

pub plus_lines_close : PlusLinesClose
plus_lines_close form root every last k line order some there =
    line_closes_in form (plus_run form root) every last k (plus_closing_width form root) line
    (plus_runs_sum_plans form root (order One) (order Two) some).some_weight
    (λ n one. plus_evaluations_close form root n (form_spread One form) (form_spread Two form) (order One) (order Two) some one (form_spread_is One form order)
    (form_spread_is Two form order))
    (omega (arith, trace_lines.count (evaluations_in form (plus_run form root) every last)))
