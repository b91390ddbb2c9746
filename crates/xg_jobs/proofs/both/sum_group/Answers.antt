use Rattle.std.proofs.Common.{rules, arith}
use Rattle.xg_jobs.proofs.PassOverGroup.{comes_to, listed, product_fits, sum_after, sum_fits}
use Rattle.xg_jobs.proofs.both.sum_group.Goals as goal

pub bounds-two-other : goal.bounds-two-other
bounds-two-other g c =
    listed (comes_to g.E.GroupEntry.leaf c.args.group.now c.loop-e.e-index c.e-item.result (omega arith) c.e-item.is) c.other.ensures _ c.requires.1.1.0

pub plus_product-sum-requires : goal.plus_product-sum-requires
plus_product-sum-requires g c =
    let at = comes_to g.E.GroupEntry.leaf c.args.group.now c.loop-e.e-index c.e-item.result (omega arith) c.e-item.is in
    let few = c.requires.1.1.1.0 in
    record {
      small = omega (arith, few c.other.result, c.requires.1.1.1.1.0);
      product = product_fits at c.other.ensures c.weight-w.ensures (search rules) _ g.most _ (few c.other.result) c.requires.1.1.1.1.1;
      room = sum_fits at c.other.ensures c.weight-w.ensures (search rules) c.args.two.now _ g.most _ c.loop-e.invariant few c.requires.1.1.1.1.1;
    }

pub loop-e-preserved : goal.loop-e-preserved
loop-e-preserved g c =
    sum_after (comes_to g.E.GroupEntry.leaf c.args.group.now c.loop-e.e-index c.e-item.result (omega arith) c.e-item.is) c.other.ensures c.weight-w.ensures
    (search rules) c.args.two.now _ _ c.loop-e.invariant c.plus_product-sum.ensures
