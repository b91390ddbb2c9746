use Rattle.std.proofs.Common.{◌≡◌, map, unsigned_abs}
use Rattle.def_round.specs.Shares.{prefix_sum}
use Rattle.xg_shares.proofs.shares.total.Given as goal

abbrev pub invariant-loop-i : goal.invariant-loop-i
invariant-loop-i l = l.sum ≡ prefix_sum (map unsigned_abs l.weights) l.i
