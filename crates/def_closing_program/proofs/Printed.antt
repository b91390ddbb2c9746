-- The bounds that are printed of a game are the ends of its run, and so within what was promised.
use Rattle.std.proofs.Common.{◌≡◌, ℕ, ◌*◌, ◌≤◌, Some, ap, sym, ◌∙◌, subst}
use Rattle.std.specs.Prelude.{ℤ}
use Rattle.std.proofs.lemmas.Option.{same_Some}
use Rattle.def_tree.specs.declared.Player.TheVariants.{One, Two}
use Rattle.def_fraction.specs.Fraction.{Fraction, fraction_of}
use Rattle.def_file.specs.Content.{GameFile}
use Rattle.def_game_numbers.specs.Faultless.{IsFaultless}
use Rattle.def_game_numbers.specs.Numbers.{tables_of}
use Rattle.def_game_numbers.specs.Weighed.{weighed_game}
use Rattle.def_plan.specs.Weighed.{WeighedGame}
use Rattle.def_reply.specs.Bracket.{BracketEnds, Evaluation}
use Rattle.def_reply.specs.Outcome.{Head}
use Rattle.def_run.specs.Run.{SumsPlans, WeighedRun, evaluation_in}
use Rattle.def_run.specs.WeighedLaws.{AreBestEndsIn}
use Rattle.def_run.proofs.WeighedEnds.{weighed_ends_are_the_earliest_best, weighed_runs_have_ends}
use Rattle.def_plus.specs.declared.Variant.{Variant}
use Rattle.def_plus_run.specs.VariantRun.{run_of, outcome_of}
use Rattle.def_plus_run.proofs.VariantRuns.{variant_runs_sum_plans}
use Rattle.def_cert_verdict.specs.Certificate.{Certificate, PrintedBounds}
use Rattle.def_cert_accepted.specs.OfOutcome.{certificate_of}
use Rattle.def_cert_accepted.proofs.OfRun.{bounds_in, certificate_in, same_head}
use Rattle.def_command.specs.declared.Settings.{Settings}
use Rattle.def_fraction.specs.Order.{IsAtMost, difference_of}
use Rattle.def_program.specs.Text.{game_head}
use Rattle.def_program.specs.Bounds.{game_bounds}
use Rattle.def_program.proofs.Played.{head_of_game}
use Rattle.def_closing_games.specs.Promise.{promise}
use Rattle.def_closing_games.proofs.Files.{in_order}
use Rattle.def_closing_games.proofs.Promises.{promises_are_kept}

module _ (variant : Variant) (game : GameFile) (settings : Settings) (is : IsFaultless game)
    (some_round : 1 ≤ settings.rounds) (some_scale : 1 ≤ settings.scale) where
  abbrev numbers : WeighedGame
  numbers = weighed_game game

  abbrev run : WeighedRun
  run = run_of variant numbers.form settings.scale

  abbrev ends : BracketEnds
  ends = (weighed_runs_have_ends numbers.form run settings.every settings.rounds some_round).0

  abbrev bounds : PrintedBounds
  bounds = bounds_in numbers run settings.rounds settings.every ends

  -- the printed bounds are those of the run's ends
  bounds_are : game_bounds variant game settings ≡ Some bounds
  bounds_are =
      let are = (weighed_runs_have_ends numbers.form run settings.every settings.rounds some_round).1 in
      ap (λ (h : Head). (certificate_of numbers.form (outcome_of variant numbers.form h)).bounds)
      (same_head numbers (game_head game settings) (head_of_game game settings))
      ∙ ap (λ (c : Certificate). c.bounds)
      (certificate_in numbers run settings.rounds settings.every settings.scale ends are)

  -- each bound is an end over the unit, what its rounds weigh, and the scale
  abbrev over : ℤ → ℕ → Fraction
  over total round = fraction_of total (numbers.unit * (run.weight round * settings.scale))

  sums : SumsPlans numbers.form settings.scale run
  sums =
      let order = in_order game is.whole is.fractions is.no_fault in
      variant_runs_sum_plans variant numbers.form settings.scale (order One) (order Two) some_scale

  best : AreBestEndsIn numbers.form run settings.every settings.rounds ends
  best =
      weighed_ends_are_the_earliest_best numbers.form run settings.every settings.rounds ends sums.some_weight
      (weighed_runs_have_ends numbers.form run settings.every settings.rounds some_round).1

  high_is : over ends.upper.high ends.upper.round ≡ bounds.high
  high_is =
      ap (λ (e : Evaluation). over e.high ends.upper.round) best.of_upper.is
      ∙ ap (λ (r : ℕ). fraction_of (evaluation_in numbers.form run ends.upper.round).high (numbers.unit * r))
      (sym (sums.of_two ends.upper.round best.of_upper.some).root_weight)

  low_is : over ends.lower.low ends.lower.round ≡ bounds.low
  low_is =
      ap (λ (e : Evaluation). over e.low ends.lower.round) best.of_lower.is
      ∙ ap (λ (r : ℕ). fraction_of (evaluation_in numbers.form run ends.lower.round).low (numbers.unit * r))
      (sym (sums.of_one ends.lower.round best.of_lower.some).root_weight)

  abbrev Keeps : Fraction → Fraction → Type 0
  Keeps high low =
      IsAtMost (difference_of high low) (promise variant (tables_of game) game.tree settings.scale settings.rounds)

  -- what is printed is within the promise
  pub printed_within : (b : PrintedBounds) → game_bounds variant game settings ≡ Some b → Keeps b.high b.low
  printed_within b printed =
      let are = (weighed_runs_have_ends numbers.form run settings.every settings.rounds some_round).1 in
      let kept = promises_are_kept variant game settings.scale settings.every settings.rounds ends
      is.whole is.fractions is.no_fault some_scale some_round are in
      subst (λ (c : PrintedBounds). Keeps c.high c.low) (same_Some bounds b (sym bounds_are ∙ printed))
      (subst (Keeps bounds.high) low_is
      (subst (λ (f : Fraction). Keeps f (over ends.lower.low ends.lower.round)) high_is kept))
