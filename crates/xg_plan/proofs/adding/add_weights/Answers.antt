use Rattle.std.proofs.Common.{arith}
use Rattle.xg_plan.proofs.AddLemmas.{added_all}
use Rattle.xg_plan.proofs.adding.add_weights.Goals as goal

pub returns : goal.returns
returns c = added_all c.args.weights.now c.args.others.now c.args.times c.loop-s.s c.loop-s.weights c.requires.as_many
    (omega (arith, c.loop-s-test.false, c.loop-s.auto.weights)) c.loop-s.invariant
