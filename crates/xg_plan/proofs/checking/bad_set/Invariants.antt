use Rattle.std.proofs.Common.{◌<◌, slice_index_or, ℕ}
use Rattle.def_plan.specs.Form.{PlacedSet, placed, player_sets}
use Rattle.def_plan.specs.Plan.{AddsUp}
use Rattle.xg_plan.proofs.checking.bad_set.Given as goal

abbrev pub invariant-loop-k : goal.invariant-loop-k
invariant-loop-k l = (j : ℕ) (d : PlacedSet) → j < l.k → AddsUp l.weights (slice_index_or (placed (player_sets l.form l.player)) j d)
