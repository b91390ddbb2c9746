-- The state of an engine, from its parts.
use Rattle.std.specs.Prelude.{Option}
use Rattle.std.specs.Option.{option_map}
use Rattle.def_plan.specs.Weighed.{WeighedGame}
use Rattle.xg_engine.specs.State.{EngineState}
use Rattle.xg_engine.specs.declared.running.FinishedRun.{FinishedRun}

abbrev pub engine_state : WeighedGame → Option FinishedRun → EngineState
engine_state game last_run = record {
  game = game;
  outcome = option_map (λ (finished : FinishedRun). finished.outcome) last_run;
  sums = option_map (λ (finished : FinishedRun). record { one = finished.sum_one; two = finished.sum_two }) last_run;
}
