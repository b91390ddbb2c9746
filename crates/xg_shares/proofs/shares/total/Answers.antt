use Rattle.std.proofs.Common.{◌≡◌, ◌+◌, List, ap, arith, length, map, unsigned_abs, ℕ}
use Rattle.def_round.specs.Shares.{prefix_sum}
use Rattle.def_round.proofs.SharesLaws.{prefix-all, prefix-more}
use Rattle.xg_plan.proofs.ShareLemmas.{prefix-within}
use Rattle.xg_shares.proofs.SizeShares.{length-sizes}
use Rattle.xg_shares.proofs.shares.total.Goals as goal

pub overflow_add-sum : goal.overflow_add-sum
overflow_add-sum c =
    let ws : List ℕ = map unsigned_abs c.args.weights.now in
    omega (arith, prefix-more ws c.loop-i.i (omega (arith, length-sizes c.args.weights.now)), prefix-within ws (c.loop-i.i + 1), c.weight_at-sum.ensures)

pub loop-i-preserved : goal.loop-i-preserved
loop-i-preserved c =
    let ws : List ℕ = map unsigned_abs c.args.weights.now in
    omega (arith, prefix-more ws c.loop-i.i (omega (arith, length-sizes c.args.weights.now)), c.weight_at-sum.ensures)

pub returns : goal.returns
returns c =
    let ws : List ℕ = map unsigned_abs c.args.weights.now in
    let done : c.loop-i.i ≡ length ws = omega (arith, length-sizes c.args.weights.now) in
    omega (arith, prefix-all ws, ap (λ k. prefix_sum ws k) done)
