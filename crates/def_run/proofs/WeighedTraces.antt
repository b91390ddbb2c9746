-- The trace of a run that sums plans.
use Rattle.std.proofs.Common.{◌≡◌, ℕ, List, [], ◌∷◌, map, arith, ap, sym, refl, subst}
use Rattle.std.specs.List.Sorted.{IsStrictlyIncreasing}
use Rattle.def_plan.specs.Form.{SequenceForm}
use Rattle.def_reply.specs.Bracket.{Evaluation, evaluated_rounds}
use Rattle.def_reply.specs.BracketLaws.{RoundsRise}
use Rattle.def_reply.proofs.EvaluatedRounds.{rounds as rounds_evaluated}
use Rattle.def_reply.proofs.TraceLines.{trace_lines, never_widens, trace_looks_back}
use Rattle.def_run.specs.Run.{WeighedRun, evaluation_in, evaluations_in}
use Rattle.def_run.specs.WeighedLaws.{WeighedTraceNeverWidens, WeighedTraceLooksBack}
use Rattle.def_run.proofs.WeighedEnds.{each_is_of_a_round, divided_in}

-- each line's bracket lies within those of the lines before
pub weighed_trace_never_widens : WeighedTraceNeverWidens
weighed_trace_never_widens form run every last j k line weights le low =
    let es : List Evaluation = evaluations_in form run every last in
    never_widens run.weight es j k line (divided_in form run every last weights) le (omega (arith, trace_lines.count es, low))

-- the rounds of the evaluations are the evaluated ones
rounds_are : (form : SequenceForm) (run : WeighedRun) (ks : List ℕ)
    → map (λ (e : Evaluation). e.round) (map (evaluation_in form run) ks) ≡ ks
rounds_are form run [] = refl
rounds_are form run (k ∷ ks) = ap (λ rest. k ∷ rest) (rounds_are form run ks)

-- the ends of a line come from rounds 1 up to its own
pub weighed_trace_looks_back : WeighedTraceLooksBack
weighed_trace_looks_back form run every last =
    let es : List Evaluation = evaluations_in form run every last in
    let rise : RoundsRise es = subst IsStrictlyIncreasing (sym (rounds_are form run (evaluated_rounds every last))) (rounds_evaluated.in_order every last) in
    trace_looks_back es (λ k d low. (each_is_of_a_round form run every last k d low).some) rise
