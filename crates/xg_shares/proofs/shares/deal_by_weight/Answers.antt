use Rattle.std.proofs.Common.{◌≡◌, ◌+◌, ◌∙◌, List, arith, map, unsigned_abs, ℕ}
use Rattle.def_round.specs.Shares.{prefix_share}
use Rattle.xg_plan.proofs.ShareLemmas.{DealStep, dealt_is_shares, dealt_more, step_of}
use Rattle.xg_shares.proofs.SizeShares.{length-sizes}
use Rattle.xg_shares.proofs.shares.deal_by_weight.Goals as goal

step_at : (c : goal.After-weight_at-weight)
    → DealStep c.args.n (map unsigned_abs c.args.weights.now) c.loop-i.i (c.loop-i.weight_upto + c.weight_at-weight.result) c.args.sum
step_at c =
    step_of c.args.n (map unsigned_abs c.args.weights.now) c.loop-i.i c.loop-i.weight_upto c.weight_at-weight.result c.args.sum
    (omega (arith, length-sizes c.args.weights.now)) c.requires.some c.requires.whole c.loop-i.invariant.0 c.weight_at-weight.ensures

pub overflow_add-weight_upto : goal.overflow_add-weight_upto
overflow_add-weight_upto c = omega (arith, (step_at c).within, c.ranges.sum)

pub next_part-upto-requires-clause-part : goal.next_part-upto-requires-clause-part
next_part-upto-requires-clause-part c = (step_at c).within

pub loop-i-preserved : goal.loop-i-preserved
loop-i-preserved c =
    let step = step_of c.args.n (map unsigned_abs c.args.weights.now) c.loop-i.i c.loop-i.weight_upto c.weight_at-weight.result c.args.sum
    (omega (arith, length-sizes c.args.weights.now)) c.requires.some c.requires.whole c.loop-i.invariant.0 c.weight_at-weight.ensures in
    let next : c.next_part-upto.result ≡ prefix_share c.args.n (map unsigned_abs c.args.weights.now) (c.loop-i.i + 1) = c.next_part-upto.ensures
    ∙ step.share_next in (
      step.next,
      next,
      dealt_more (λ k. prefix_share c.args.n (map unsigned_abs c.args.weights.now) k) c.loop-i.out c.loop-i.i _ (omega arith)
          (omega (arith, step.grows, c.next_part-upto.ensures, next, c.loop-i.invariant.1)) c.loop-i.invariant.2,
    )

pub returns : goal.returns
returns c =
    let ws : List ℕ = map unsigned_abs c.args.weights.now in
    dealt_is_shares c.args.n ws c.loop-i.out (omega (arith, length-sizes c.args.weights.now)) (omega arith)
    (λ k below. c.loop-i.invariant.2 k (omega (arith, length-sizes c.args.weights.now)))
