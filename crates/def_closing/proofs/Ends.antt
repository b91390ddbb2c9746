-- The ends of a bracket, where the evaluation of the last round closes.
use Rattle.std.proofs.Common.{◌≡◌, ℕ, zero, suc, ◌+◌, ◌*◌, ◌≤◌, ◌<◌, List, [], ◌∷◌, length}
use Rattle.std.proofs.Common.{get_or, slice_index_or, map, take, All, arith, ap, sym, ◌∙◌, refl, subst, inr, Some}
use Rattle.std.specs.Prelude.{ℤ, pos, ◌+ℤ◌, ◌-ℤ◌, ◌*ℤ◌, ◌≤ℤ◌, neg_ℤ}
use Rattle.std.proofs.lemmas.Int.{ints}
use Rattle.std.proofs.lemmas.List.{get_or-take, length-take}
use Rattle.std.proofs.lemmas.List.Elements.{All-take}
use Rattle.def_reply.specs.Bracket.{trace, trace_line}
use Rattle.def_reply.specs.declared.TraceLine.{TraceLine}
use Rattle.def_reply.proofs.BestEnds.{best_ends}
use Rattle.def_reply.proofs.TraceLines.{trace_lines}
use Rattle.def_sums.proofs.RingLaws.{*ℤ-+ℤ, *ℤ-mono, *ℤ_comm, *ℤ_assoc, neg-*ℤ}
use Rattle.def_plan.specs.Form.{SequenceForm}
use Rattle.def_reply.specs.Bracket.{Evaluation, BracketEnds, ends_of, evaluated_rounds, HasFloorAtMost, HasCeilingAtMost}
use Rattle.def_reply.proofs.EvaluatedRounds.{rounds as rounds_evaluated}
use Rattle.def_run.specs.Run.{WeighedRun, HasWeights, evaluation_in, evaluations_in, plain_run}
use Rattle.def_run.proofs.WeighedEnds.{divided_in, each_is_of_a_round, length_evaluations, some_ends, weighed_ends_are_the_earliest_best}
use Rattle.def_closing.specs.Laws.{BracketsClose}
use Rattle.def_closing.specs.Width.{width_bound, AreEndsWithin, IsLineWithin}
use Rattle.def_closing.proofs.Closing.{evaluations_close}

at_map : (form : SequenceForm) (run : WeighedRun) (ks : List ℕ) (k : ℕ) (d : Evaluation) (c : ℕ) → k < length ks
    → get_or (map (evaluation_in form run) ks) k d ≡ evaluation_in form run (get_or ks k c)
at_map form run [] k d c below = absurd (omega arith)
at_map form run (x ∷ xs) zero d c below = refl
at_map form run (x ∷ xs) (suc k) d c below = at_map form run xs k d c (omega arith)

-- what holds of each evaluation of a run holds of that of its last round
of_last : (form : SequenceForm) (run : WeighedRun) (every last : ℕ) (P : Evaluation → Type 0) → 1 ≤ last
    → All P (evaluations_in form run every last) → P (evaluation_in form run last)
of_last form run every last P some all =
    let ks : List ℕ = evaluated_rounds every last in
    let is = (rounds_evaluated.which every last last).1 (some, omega arith, inr refl) in
    let low : is.0 < length ks = is.1 in
    let here : P (get_or (map (evaluation_in form run) ks) is.0 (evaluation_in form run last)) =
    all is.0 (evaluation_in form run last) (omega (arith, length_evaluations form run ks, low)) in
    subst (λ k. P (evaluation_in form run k)) is.2 (subst P (at_map form run ks is.0 (evaluation_in form run last) last low) here)

-- both ends against the last evaluation, in numbers
crossed : (t a b width : ℕ) (high low upper lower : ℤ)
    → (low *ℤ pos a) ≤ℤ (lower *ℤ pos t) → (upper *ℤ pos t) ≤ℤ (high *ℤ pos b) → high ≤ℤ (low +ℤ pos width)
    → (pos t *ℤ ((pos a *ℤ upper) -ℤ (pos b *ℤ lower))) ≤ℤ pos (a * b * width)
crossed t a b width high low upper lower le_low le_high close =
    let up = *ℤ-mono a (upper *ℤ pos t) (high *ℤ pos b) le_high in
    let down = *ℤ-mono b (low *ℤ pos a) (lower *ℤ pos t) le_low in
    let all = *ℤ-mono (a * b) high (low +ℤ pos width) close in
    let spread = *ℤ-+ℤ (pos (a * b)) low (pos width) in
    let one : pos a *ℤ (upper *ℤ pos t) ≡ pos t *ℤ (pos a *ℤ upper) = sym (*ℤ_assoc (pos a) upper (pos t)) ∙ *ℤ_comm (pos a *ℤ upper) (pos t) in
    let two : pos b *ℤ (lower *ℤ pos t) ≡ pos t *ℤ (pos b *ℤ lower) = sym (*ℤ_assoc (pos b) lower (pos t)) ∙ *ℤ_comm (pos b *ℤ lower) (pos t) in
    let three : pos a *ℤ (high *ℤ pos b) ≡ pos (a * b) *ℤ high = ap (λ z. pos a *ℤ z) (*ℤ_comm high (pos b)) ∙ sym (*ℤ_assoc (pos a) (pos b) high) in
    let swap : b * a ≡ a * b = omega arith in
    let four : pos b *ℤ (low *ℤ pos a) ≡ pos (a * b) *ℤ low =
    ap (λ z. pos b *ℤ z) (*ℤ_comm low (pos a)) ∙ sym (*ℤ_assoc (pos b) (pos a) low) ∙ ap (λ n. pos n *ℤ low) swap in
    let minus : pos t *ℤ neg_ℤ (pos b *ℤ lower) ≡ neg_ℤ (pos t *ℤ (pos b *ℤ lower)) =
    *ℤ_comm (pos t) (neg_ℤ (pos b *ℤ lower)) ∙ neg-*ℤ (pos b *ℤ lower) (pos t) ∙ ap neg_ℤ (*ℤ_comm (pos b *ℤ lower) (pos t)) in
    omega (arith, ints, up, down, all, spread, one, two, three, four, minus, *ℤ-+ℤ (pos t) (pos a *ℤ upper) (neg_ℤ (pos b *ℤ lower)))

-- the ends of a run, each divided by what its rounds weigh, are no further apart than the last evaluation's
pub ends_close_in : (form : SequenceForm) (run : WeighedRun) (every last width : ℕ) (ends : BracketEnds) → HasWeights run → 1 ≤ last
    → ends_of (evaluations_in form run every last) ≡ Some ends
    → (evaluation_in form run last).high ≤ℤ ((evaluation_in form run last).low +ℤ pos width)
    → AreEndsWithin run.weight last width ends
ends_close_in form run every last width ends weights some are close =
    let best = weighed_ends_are_the_earliest_best form run every last ends weights are in
    let low = of_last form run every last (λ a. HasFloorAtMost a ends.lower) some best.lower.greatest in
    let high = of_last form run every last (λ a. HasCeilingAtMost ends.upper a) some best.upper.least in
    let divisor_lower : ends.lower.divisor ≡ run.weight ends.lower.round = ap (λ (e : Evaluation). e.divisor) best.of_lower.is in
    let divisor_upper : ends.upper.divisor ≡ run.weight ends.upper.round = ap (λ (e : Evaluation). e.divisor) best.of_upper.is in
    let e : Evaluation = evaluation_in form run last in
    crossed (run.weight last) (run.weight ends.lower.round) (run.weight ends.upper.round) width e.high e.low ends.upper.high ends.lower.low
    (subst (λ n. (e.low *ℤ pos n) ≤ℤ (ends.lower.low *ℤ pos (run.weight last))) divisor_lower low)
    (subst (λ n. (ends.upper.high *ℤ pos (run.weight last)) ≤ℤ (e.high *ℤ pos n)) divisor_upper high)
    close

-- the ends of plain rounds
pub brackets_close : BracketsClose
brackets_close form root every last spread_one spread_two ends order_one order_two some some_round are_one are_two are =
    ends_close_in form (plain_run form root) every last (width_bound form root spread_one spread_two last) ends (λ round one. one) some_round are
    (evaluations_close form root last spread_one spread_two order_one order_two some some_round are_one are_two)

-- ---- lines of the trace
-- an evaluation among the first ones is one of all
among : (es : List Evaluation) (n place : ℕ) (d : Evaluation) → place < length (take n es)
    → (get_or (take n es) place d ≡ get_or es place d) × (place < length es)
among es n place d low = (get_or-take n es place d (omega (arith, length-take n es)), omega (arith, length-take n es))

-- each line's ends are no further apart than the evaluation of its own round
pub line_closes_in : (form : SequenceForm) (run : WeighedRun) (every last k : ℕ) (width : ℕ → ℕ) (line : TraceLine) → HasWeights run
    → ((n : ℕ) → 1 ≤ n → (evaluation_in form run n).high ≤ℤ ((evaluation_in form run n).low +ℤ pos (width n)))
    → k < length (evaluations_in form run every last)
    → IsLineWithin run.weight width (slice_index_or (trace (evaluations_in form run every last)) k line)
line_closes_in form run every last k width line weights close there =
    let es : List Evaluation = evaluations_in form run every last in
    let first : Evaluation = evaluation_in form run 0 in
    let front : List Evaluation = take (k + 1) es in
    let long : k < length front = omega (arith, length-take (k + 1) es) in
    let found = some_ends front (omega arith) in
    let ends : BracketEnds = found.0 in
    let divides = divided_in form run every last weights in
    let divisors : All (λ (e : Evaluation). 1 ≤ e.divisor) front = All-take (λ (e : Evaluation). 1 ≤ e.divisor) (k + 1) es (λ i d low. (divides i d low).0) in
    let lower = best_ends.lower front ends divisors found.1 in
    let upper = best_ends.upper front ends divisors found.1 in
    let here : Evaluation = get_or es k first in
    let of_round = each_is_of_a_round form run every last k first there in
    let last_one = among es (k + 1) k first long in
    let low = subst (λ (e : Evaluation). HasFloorAtMost e ends.lower) (last_one.0 ∙ of_round.is) (lower.greatest k first long) in
    let high = subst (λ (e : Evaluation). HasCeilingAtMost ends.upper e) (last_one.0 ∙ of_round.is) (upper.least k first long) in
    let at_lower = among es (k + 1) lower.place first lower.within in
    let at_upper = among es (k + 1) upper.place first upper.within in
    let divisor_lower : ends.lower.divisor ≡ run.weight ends.lower.round =
    subst (λ (e : Evaluation). e.divisor ≡ run.weight e.round) (sym at_lower.0 ∙ lower.stands first) (divides lower.place first at_lower.1).1 in
    let divisor_upper : ends.upper.divisor ≡ run.weight ends.upper.round =
    subst (λ (e : Evaluation). e.divisor ≡ run.weight e.round) (sym at_upper.0 ∙ upper.stands first) (divides upper.place first at_upper.1).1 in
    let e : Evaluation = evaluation_in form run here.round in
    let is : slice_index_or (trace es) k line ≡ trace_line here.round ends = trace_lines.each es k ends line first there found.1 in
    subst (IsLineWithin run.weight width) (sym is)
    (crossed (run.weight here.round) (run.weight ends.lower.round) (run.weight ends.upper.round) (width here.round) e.high e.low ends.upper.high ends.lower.low
    (subst (λ n. (e.low *ℤ pos n) ≤ℤ (ends.lower.low *ℤ pos (run.weight here.round))) divisor_lower low)
    (subst (λ n. (ends.upper.high *ℤ pos (run.weight here.round)) ≤ℤ (e.high *ℤ pos n)) divisor_upper high)
    (close here.round of_round.some))
