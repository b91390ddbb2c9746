use Rattle.std.proofs.Common.{◌<◌, ◌^◌, arith, get_or}
use Rattle.def_round.proofs.SharesLaws.{prefix-more}
use Rattle.xg_plan.proofs.checking.total.Goals as goal

pub loop-weight-preserved : goal.loop-weight-preserved
loop-weight-preserved c =
    let here : get_or c.args.weights.now c.loop-weight.weight-index 0 < 2 ^ 64 = omega (arith, c.type_inv.weights c.loop-weight.weight-index) in (
      omega (arith, c.loop-weight.invariant.0, prefix-more c.args.weights.now c.loop-weight.weight-index c.loop-weight-test.true),
      omega (arith, c.loop-weight.invariant.1, here),
    )
