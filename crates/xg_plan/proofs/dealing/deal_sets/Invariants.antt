use Rattle.std.proofs.Common.{slice_index}
use Rattle.def_plan.specs.Form.{player_sets}
use Rattle.xg_plan.proofs.DealLemmas.{IsDealtUpTo}
use Rattle.xg_plan.proofs.dealing.deal_sets.Given as goal

abbrev pub invariant-loop-k : goal.invariant-loop-k
invariant-loop-k l = IsDealtUpTo (player_sets l.form l.fn.player) l.units (slice_index l.initial.weights 0) l.k l.weights
