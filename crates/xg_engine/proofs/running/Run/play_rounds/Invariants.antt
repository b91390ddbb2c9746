use Rattle.xg_engine.specs.Runs.{IsAfter}
use Rattle.xg_engine.proofs.running.Run.play_rounds.Given as goal

abbrev pub invariant-loop-so_far : goal.invariant-loop-so_far
invariant-loop-so_far g l = IsAfter l.variant l.source.form.now l.settings l.so_far l.self
