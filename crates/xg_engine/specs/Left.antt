-- What a run of a variant's rounds leaves.
use Rattle.std.specs.Prelude.{◌≡◌, ℕ, ◌≤◌, [], None, Some, IfSome, IsSomeAnd}
use Rattle.def_plan.specs.Weighed.{WeighedGame}
use Rattle.def_reply.specs.Outcome.{Outcome}
use Rattle.def_plus.specs.declared.Variant.{Variant}
use Rattle.def_plus.specs.Variants.{rounds_of}
use Rattle.def_plus_run.specs.VariantRun.{outcome_of}
use Rattle.def_cert_accepted.specs.Bounds.{BoundsHold}
use Rattle.def_cert_accepted.specs.OfOutcome.{certificate_of}
use Rattle.def_cert_accepted.specs.Writable.{IsOutcomeOf}
use Rattle.xg_engine.specs.State.{EngineState, head_with, sums_of}
use Rattle.def_command.specs.declared.Settings.{Settings}

-- what is printed of the outcome has bounds, and they hold
abbrev pub HasBoundsOf : Variant → WeighedGame → ℕ → Outcome → Type 0
HasBoundsOf variant game scale outcome =
    IsSomeAnd (certificate_of game.form outcome).bounds (BoundsHold game variant scale)

-- the outcome and the sums of the variant's rounds on this game; after a round or more the outcome has its bounds, and
-- without one neither a line nor an end; and it can be written
pub record IsLeftOf (variant : Variant) (game : WeighedGame) (settings : Settings) (state : EngineState) : Type 0 where
  pub outcome : state.outcome ≡ Some (outcome_of variant game.form (head_with game settings))
  pub sums : state.sums ≡ Some (sums_of (rounds_of variant game.form settings.scale settings.rounds))
  pub bounds : 1 ≤ settings.rounds → IfSome state.outcome (HasBoundsOf variant game settings.scale)
  pub no_line : settings.rounds ≡ 0 → IfSome state.outcome (λ outcome. outcome.trace ≡ [])
  pub no_end : settings.rounds ≡ 0 → IfSome state.outcome (λ outcome. outcome.ends ≡ None)
  pub writable : IfSome state.outcome (IsOutcomeOf game.form)
