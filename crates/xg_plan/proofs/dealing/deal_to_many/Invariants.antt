use Rattle.std.proofs.Common.{◌≡◌, ◌+◌, ◌<◌, get_or, ℕ}
use Rattle.def_round.specs.Shares.{prefix_share, prefix_sum}
use Rattle.xg_plan.proofs.dealing.deal_to_many.Given as goal

abbrev pub invariant-loop-i : goal.invariant-loop-i
invariant-loop-i l = (l.units_upto ≡ prefix_sum l.units l.i) × (l.before ≡ prefix_share l.n l.units l.i)
    × ((k : ℕ) → k < l.i → get_or l.out k 0 + prefix_share l.n l.units k ≡ prefix_share l.n l.units (k + 1))
