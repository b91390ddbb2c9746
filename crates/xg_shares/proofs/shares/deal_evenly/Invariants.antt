use Rattle.std.proofs.Common.{◌≡◌, ◌*◌, ◌+◌, ◌/◌, ◌<◌, get_or, length, ℕ}
use Rattle.xg_shares.proofs.shares.deal_evenly.Given as goal

abbrev pub invariant-loop-i : goal.invariant-loop-i
invariant-loop-i l = (l.before ≡ l.n * l.i / length l.out) × ((k : ℕ) → k < l.i → get_or l.out k 0 + l.n * k / length l.out ≡ l.n * (k + 1) / length l.out)
