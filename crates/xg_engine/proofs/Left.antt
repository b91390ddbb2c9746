-- What a run leaves, of its game.
use Rattle.std.proofs.Common.{◌≡◌, ◌≤◌, [], IfSome, None, Some, ap, ◌∙◌, refl, subst, sym}
use Rattle.std.specs.Prelude.{IsSomeAnd}
use Rattle.def_fraction.specs.Fraction.{most}
use Rattle.def_game_numbers.specs.WholeSums.{HasWholeSum}
use Rattle.def_plan.specs.Weighed.{WeighedGame}
use Rattle.def_reply.specs.Bracket.{trace}
use Rattle.def_reply.specs.Outcome.{Head, Outcome}
use Rattle.def_run.specs.Run.{WeighedRun, evaluations_in}
use Rattle.def_run.proofs.WeighedOutcomes.{weighed_outcomes_show_their_run}
use Rattle.def_plus.specs.declared.Variant.{Variant}
use Rattle.def_plus.specs.Variants.{rounds_of}
use Rattle.def_plus_run.specs.VariantRun.{outcome_of, run_of}
use Rattle.def_cert_verdict.specs.Certificate.{Certificate}
use Rattle.def_cert_verdict.specs.Laws.{IsHeadOf}
use Rattle.def_cert_accepted.specs.Bounds.{BoundsHold}
use Rattle.def_cert_accepted.specs.Writable.{IsOutcomeOf}
use Rattle.def_cert_accepted.proofs.Outcomes.{outcomes_have_bounds}
use Rattle.xg_engine.specs.Left.{HasBoundsOf, IsLeftOf}
use Rattle.xg_engine.specs.Players.{IsSoundForm}
use Rattle.xg_engine.specs.State.{AreWithinLimitsOf, EngineState, head_with, sums_of}
use Rattle.def_command.specs.declared.Settings.{Settings}
use Rattle.xg_engine.proofs.Writable.{outcome_is_writable}

-- the head that is made of a game is the game's
pub is_head_of_game : (game : WeighedGame) (settings : Settings) → IsHeadOf game (head_with game settings)
is_head_of_game game settings = record {
  nodes = refl;
  leaves = refl;
  sets_one = refl;
  sets_two = refl;
  sequences_one = refl;
  sequences_two = refl;
  unit = refl;
  sum_is = refl;
  mass_is = refl;
}

module _ (variant : Variant) (game : WeighedGame) (settings : Settings) (sound : IsSoundForm game.form)
    (limits : AreWithinLimitsOf variant settings) (some_unit : 1 ≤ game.unit) (small_unit : game.unit ≤ most)
    (whole : HasWholeSum game) where
  abbrev head : Head
  head = head_with game settings

  abbrev left : Outcome
  left = outcome_of variant game.form head

  abbrev run : WeighedRun
  run = run_of variant game.form settings.scale

  has_bounds : 1 ≤ settings.rounds → HasBoundsOf variant game settings.scale left
  has_bounds some =
      let it =
      outcomes_have_bounds.of_rounds variant game head sound.order_one sound.order_two (is_head_of_game game settings)
      some_unit limits.some_scale some in
      subst (λ o. IsSomeAnd o (BoundsHold game variant settings.scale)) (sym (ap (λ (c : Certificate). c.bounds) it.are)) it.hold

  has_no_line : settings.rounds ≡ 0 → left.trace ≡ []
  has_no_line none =
      weighed_outcomes_show_their_run.trace game.form run head
      ∙ ap (λ n. trace (evaluations_in game.form run settings.every n)) none

  is_writable : IsOutcomeOf game.form left
  is_writable =
      outcome_is_writable variant game.form head sound limits.some_scale limits.small_scale limits.few_rounds
      (some_unit, small_unit) whole

  -- a state with the outcome and the sums of these rounds
  pub is_left : (state : EngineState) → state.outcome ≡ Some left
      → state.sums ≡ Some (sums_of (rounds_of variant game.form settings.scale settings.rounds))
      → IsLeftOf variant game settings state
  is_left state is sums = record {
    outcome = is;
    sums = sums;
    bounds = λ some. shown (HasBoundsOf variant game settings.scale) (has_bounds some);
    no_line = λ none. shown (λ (o : Outcome). o.trace ≡ []) (has_no_line none);
    no_end = λ none. shown (λ (o : Outcome). o.ends ≡ None) (weighed_outcomes_show_their_run.no_ends game.form run head none);
    writable = shown (IsOutcomeOf game.form) is_writable;
  }
    where
      shown : (P : Outcome → Type 0) → P left → IfSome state.outcome P
      shown P holds = subst (λ o. IfSome o P) (sym is) holds
