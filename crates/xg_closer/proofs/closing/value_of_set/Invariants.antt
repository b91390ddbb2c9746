use Rattle.std.proofs.Common.{◌≡◌, pos, ◌*ℤ◌, slice_index, map}
use Rattle.std.specs.List.{range_with_len}
use Rattle.def_sums.specs.Sum.{sum_over}
use Rattle.xg_closer.proofs.closing.value_of_set.Given as goal
use Rattle.def_plan.specs.FormRows.{amount_of}

abbrev pub invariant-loop-i : goal.invariant-loop-i
invariant-loop-i g l = l.sum ≡ sum_over (λ s. pos (slice_index l.play s) *ℤ amount_of (map g.W.Worth.amount l.worths) s) (range_with_len l.fn.place.first l.i)
