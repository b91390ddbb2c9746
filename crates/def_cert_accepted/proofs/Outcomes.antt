-- The bounds that are printed of an outcome.
use Rattle.std.proofs.Common.{◌≡◌, ◌≤◌, Some, sym, ap, ◌∙◌}
use Rattle.def_plan.specs.Form.{AreInOrder}
use Rattle.def_plan.specs.Weighed.{WeighedGame}
use Rattle.def_reply.specs.Bracket.{BracketEnds, ends_of}
use Rattle.def_reply.specs.Outcome.{Head}
use Rattle.def_run.specs.Run.{WeighedRun, SumsPlans, evaluations_in}
use Rattle.def_run.proofs.WeighedEnds.{weighed_runs_have_ends}
use Rattle.def_run.proofs.WeighedTraces.{weighed_trace_never_widens}
use Rattle.def_plus.specs.declared.Variant.{Variant}
use Rattle.def_plus_run.specs.VariantRun.{outcome_of, run_of}
use Rattle.def_plus_run.proofs.VariantRuns.{variant_runs_sum_plans}
use Rattle.def_cert_verdict.specs.Certificate.{PrintedBounds}
use Rattle.def_cert_verdict.specs.Laws.{HoldsUpBy, IsHeadOf, ShowsItsBoundsBy, with_bounds}
use Rattle.def_cert_verdict.proofs.Shown.{shown_where_they_hold}
use Rattle.def_cert_accepted.specs.Bounds.{TraceNarrows}
use Rattle.def_cert_accepted.specs.Laws.{HasBoundsInPrint, OutcomesHaveTheirBounds}
use Rattle.def_cert_accepted.specs.OfOutcome.{certificate_of}
use Rattle.def_cert_accepted.proofs.Accepted.{holds_in, numbers_back}
use Rattle.def_cert_accepted.proofs.Bounds.{bounds_hold}
use Rattle.def_cert_accepted.proofs.OfRun.{bounds_in, certificate_in, same_head}

module _ (variant : Variant) (game : WeighedGame) (head : Head) (order_one : AreInOrder game.form.sets_one)
    (order_two : AreInOrder game.form.sets_two) (is : IsHeadOf game head) (some_unit : 1 ≤ game.unit)
    (some_scale : 1 ≤ head.scale) where
  abbrev run : WeighedRun
  run = run_of variant game.form head.scale

  sums : SumsPlans game.form head.scale run
  sums = variant_runs_sum_plans variant game.form head.scale order_one order_two some_scale

  module _ (ends : BracketEnds) (are : ends_of (evaluations_in game.form run head.every head.rounds) ≡ Some ends) where
    abbrev bounds : PrintedBounds
    bounds = bounds_in game run head.rounds head.every ends

    certificate_is : certificate_of game.form (outcome_of variant game.form head) ≡ with_bounds head bounds
    certificate_is =
        let same = same_head game head is in
        ap (λ (h : Head). certificate_of game.form (outcome_of variant game.form h)) same
        ∙ certificate_in game run head.rounds head.every head.scale ends are
        ∙ ap (λ (h : Head). with_bounds h bounds) (sym same)

    holds_up : HoldsUpBy run.weight game head.scale bounds
    holds_up = holds_in game run head.rounds head.every head.scale ends order_one order_two sums are

    shows : ShowsItsBoundsBy run.weight game bounds
    shows = shown_where_they_hold run.weight game head.scale bounds order_one order_two some_unit holds_up

    trace : TraceNarrows game variant head.scale bounds
    trace = record {
      within_earlier = λ j k line.
          weighed_trace_never_widens game.form run head.every head.rounds j k line sums.some_weight;
      last_low = sym shows.traced_low;
      last_high = sym shows.traced_high;
      low_round = holds_up.plan_one.root_is;
      high_round = holds_up.plan_two.root_is;
    }

    has_bounds : HasBoundsInPrint variant game head
    has_bounds = record {
      bounds = bounds;
      are = certificate_is;
      hold = bounds_hold run.weight game bounds shows variant head.scale trace;
    }

  of_rounds : 1 ≤ head.rounds → HasBoundsInPrint variant game head
  of_rounds some_round =
      let ends = weighed_runs_have_ends game.form run head.every head.rounds some_round in
      has_bounds ends.0 ends.1

-- after a round or more the bounds that are printed of an outcome hold
pub outcomes_have_bounds : OutcomesHaveTheirBounds
outcomes_have_bounds = record { of_rounds = of_rounds; same_numbers = numbers_back }
