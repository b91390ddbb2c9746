use Rattle.std.proofs.Common.{◌≢◌, ℕ, ◌<◌, ◌≤◌}
use Rattle.std.specs.Prelude.{slice_index}
use Rattle.def_history.specs.History.{stripe_of}
use Rattle.xg_rowcore.proofs.chains.seek.Given as goal

abbrev pub invariant-loop-i : goal.invariant-loop-i
invariant-loop-i l = (place : ℕ) → l.from ≤ place → place < l.i → stripe_of l.stripes (slice_index l.rows place) ≢ l.stripe
