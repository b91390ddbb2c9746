use Rattle.std.proofs.Common.{◌≡◌, map}
use Rattle.def_round.specs.Shares.{prefix_sum}
use Rattle.xg_seq.specs.Table.{placed_of_row}
use Rattle.xg_closer.specs.Playing.{positive_parts}
use Rattle.xg_closer.proofs.playing.sum_of_parts.Given as goal

abbrev pub invariant-loop-i : goal.invariant-loop-i
invariant-loop-i g l = l.sum ≡ prefix_sum (positive_parts (map g.R.Worth.amount l.regrets) (placed_of_row l.fn.place)) l.i
