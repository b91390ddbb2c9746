use Rattle.std.proofs.Common.{◌≡◌, ◌+◌, ◌<◌, get_or, map, unsigned_abs, ℕ}
use Rattle.def_round.specs.Shares.{prefix_share, prefix_sum}
use Rattle.xg_shares.proofs.shares.deal_by_weight.Given as goal

abbrev pub invariant-loop-i : goal.invariant-loop-i
invariant-loop-i l = (l.weight_upto ≡ prefix_sum (map unsigned_abs l.weights) l.i) × (l.before ≡ prefix_share l.n (map unsigned_abs l.weights) l.i)
    × ((k : ℕ) → k < l.i → get_or l.out k 0 + prefix_share l.n (map unsigned_abs l.weights) k ≡ prefix_share l.n (map unsigned_abs l.weights) (k + 1))
