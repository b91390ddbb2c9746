-- The outcome of a run is writable.
use Rattle.std.proofs.Common.{◌≡◌, ℕ, zero, suc, ◌*◌, ◌≤◌, Some, refl, ap, ◌∙◌, subst, sym, arith}
use Rattle.def_fraction.specs.Fraction.{most}
use Rattle.def_sums.specs.Limits.{most_root}
use Rattle.def_tree.specs.declared.Player.TheVariants.{One, Two}
use Rattle.def_plan.specs.Form.{SequenceForm}
use Rattle.def_plan.specs.Plan.{IsPlan}
use Rattle.def_reply.proofs.ReplySizes.{bounds_small}
use Rattle.def_reply.specs.Bracket.{BracketEnds, ends_of}
use Rattle.def_reply.specs.Outcome.{Head}
use Rattle.def_cert_verdict.specs.Ranges.{IsFromTo}
use Rattle.def_run.specs.Run.{SumsPlans, WeighedRun, evaluations_in}
use Rattle.def_run.proofs.WeighedEnds.{weighed_ends_are_the_earliest_best, weighed_runs_have_ends}
use Rattle.def_run.proofs.WeighedOutcomes.{ends_at, shown_are, weighed_outcomes_show_their_run}
use Rattle.def_plus.specs.declared.Variant.{Variant}
use Rattle.def_plus.specs.Variants.{most_rounds_of, most_scale_of, weight_of_rounds}
use Rattle.def_plus_run.specs.VariantRun.{outcome_of, run_of}
use Rattle.def_plus_run.proofs.VariantRuns.{variant_runs_sum_plans}
use Rattle.xg_bracket.proofs.Offered.{length-best}
use Rattle.def_game_numbers.specs.WholeSums.{IsWholeIn}
use Rattle.def_cert_accepted.specs.Writable.{AreEndsOf, IsEndOf, IsOutcomeOf}
use Rattle.xg_engine.specs.Players.{IsSoundForm}
use Rattle.xg_engine.proofs.Growing.{sum_within}

module _ (variant : Variant) (form : SequenceForm) (head : Head) (sound : IsSoundForm form) (some_scale : 1 ≤ head.scale)
    (small_scale : head.scale ≤ most_scale_of variant) (few_rounds : head.rounds ≤ most_rounds_of variant) where
  abbrev run : WeighedRun
  run = run_of variant form head.scale

  sums : SumsPlans form head.scale run
  sums = variant_runs_sum_plans variant form head.scale sound.order_one sound.order_two some_scale

  root_is : (n : ℕ) → 1 ≤ weight_of_rounds variant n * head.scale → n ≤ head.rounds
      → IsFromTo 1 most_root (weight_of_rounds variant n * head.scale)
  root_is n some in_time = (some, sum_within variant n head.scale (omega (arith, in_time, few_rounds)) small_scale)

  lower_is : (ends : BracketEnds) → 1 ≤ ends.lower.round → ends.lower.round ≤ head.rounds
      → IsEndOf form.sets_one form.sets_two (ends_at form run ends).lower
  lower_is ends some in_time =
      let n : ℕ = ends.lower.round in
      let is : IsPlan form.sets_one (weight_of_rounds variant n * head.scale) (run.sum_one n) = sums.of_one n some in
      let root : IsFromTo 1 most_root (weight_of_rounds variant n * head.scale) = root_is n is.some_root in_time in
      record {
        plan = is.all_sequences;
        reply = length-best form Two (run.sum_one n);
        root = subst (IsFromTo 1 most_root) (sym is.root_weight) root;
        total = bounds_small.floor form (weight_of_rounds variant n * head.scale) (run.sum_one n) sound.order_one sound.order_two
            is sound.small_mass root.1;
      }

  upper_is : (ends : BracketEnds) → 1 ≤ ends.upper.round → ends.upper.round ≤ head.rounds
      → IsEndOf form.sets_two form.sets_one (ends_at form run ends).upper
  upper_is ends some in_time =
      let n : ℕ = ends.upper.round in
      let is : IsPlan form.sets_two (weight_of_rounds variant n * head.scale) (run.sum_two n) = sums.of_two n some in
      let root : IsFromTo 1 most_root (weight_of_rounds variant n * head.scale) = root_is n is.some_root in_time in
      record {
        plan = is.all_sequences;
        reply = length-best form One (run.sum_two n);
        root = subst (IsFromTo 1 most_root) (sym is.root_weight) root;
        total = bounds_small.ceiling form (weight_of_rounds variant n * head.scale) (run.sum_two n) sound.order_one
            sound.order_two is sound.small_mass root.1;
      }

  of_ends : (ends : BracketEnds) → ends_of (evaluations_in form run head.every head.rounds) ≡ Some ends
      → AreEndsOf form (outcome_of variant form head).ends
  of_ends ends are =
      let best = weighed_ends_are_the_earliest_best form run head.every head.rounds ends sums.some_weight are in
      let shown = weighed_outcomes_show_their_run.ends form run head ends are in
      let is : (outcome_of variant form head).ends ≡ Some (ends_at form run ends) =
      shown.1 ∙ ap Some (shown_are form run ends shown.0 shown.2) in
      subst (AreEndsOf form) (sym is) (
        lower_is ends best.of_lower.some best.of_lower.in_time,
        upper_is ends best.of_upper.some best.of_upper.in_time,
      )

  with_ends : 1 ≤ head.rounds → AreEndsOf form (outcome_of variant form head).ends
  with_ends some =
      let ends = weighed_runs_have_ends form run head.every head.rounds some in
      of_ends ends.0 ends.1

  ends_after : (n : ℕ) → head.rounds ≡ n → AreEndsOf form (outcome_of variant form head).ends
  ends_after zero none = subst (AreEndsOf form) (sym (weighed_outcomes_show_their_run.no_ends form run head none)) tt
  ends_after (suc n) is = with_ends (omega (arith, is))

  -- the outcome has a text where its game's unit and sum have
  pub outcome_is_writable : IsFromTo 1 most head.unit → IsWholeIn head.unit head.sum
      → IsOutcomeOf form (outcome_of variant form head)
  outcome_is_writable unit sum = record { unit = unit; sum = sum; ends = ends_after head.rounds refl }
