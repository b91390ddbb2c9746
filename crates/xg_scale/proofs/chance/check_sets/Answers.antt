use Rattle.std.proofs.Common.{arith}
use Rattle.xg_scale.proofs.SetLemmas.{sets_pass}
use Rattle.xg_scale.proofs.chance.check_sets.Goals as goal

pub returns-clause-ok : goal.returns-clause-ok
returns-clause-ok c =
    sets_pass c.args.test c.args.game.now c.tree-tree.ensures.whole
    (λ s from_one within. c.loop-set.invariant s from_one (omega (arith, within, c.loop-set-test.false, c.set_count-set-end.ensures)))
