use Rattle.std.proofs.Common.{rules, arith}
use Rattle.xg_jobs.proofs.PassOverGroup.{comes_to, listed, product_fits, row_fits, rows_after, sum_after, sum_fits}
use Rattle.xg_jobs.proofs.both.spread_group.Goals as goal

pub bounds-two-b : goal.bounds-two-b
bounds-two-b g c =
    listed (comes_to g.E.GroupEntry.leaf c.args.group.now c.loop-e.e-index c.e-item.result (omega arith) c.e-item.is) c.other-b.ensures _ c.requires.1.1.0

pub plus_product-sum-requires : goal.plus_product-sum-requires
plus_product-sum-requires g c =
    let at = comes_to g.E.GroupEntry.leaf c.args.group.now c.loop-e.e-index c.e-item.result (omega arith) c.e-item.is in
    let few = c.requires.1.1.1.1.1.0 in
    record {
      small = omega (arith, few c.other-b.result, c.requires.1.1.1.1.1.1.0);
      product = product_fits at c.other-b.ensures c.weight-w.ensures (search rules) _ g.most _ (few c.other-b.result)
          (omega (arith, c.requires.1.1.1.1.1.1.1 0));
      room = sum_fits at c.other-b.ensures c.weight-w.ensures (search rules) c.args.two.now _ g.most _ c.loop-e.invariant.0 few
          (omega (arith, c.requires.1.1.1.1.1.1.1 0));
    }

pub add_product-requires : goal.add_product-requires
add_product-requires g c =
    let at = comes_to g.E.GroupEntry.leaf c.args.group.now c.loop-e.e-index c.e-item.result (omega arith) c.e-item.is in
    record {
      inside = omega (arith, listed at c.other-b.ensures _ c.requires.1.1.0, c.requires.1.1.1.0);
      small = omega arith;
      product = product_fits at c.other-b.ensures c.weight-w.ensures (search rules) _ g.most _ c.requires.1.1.1.1.0
          (omega (arith, c.requires.1.1.1.1.1.1.1 0));
      room = row_fits at c.other-b.ensures c.weight-w.ensures (search rules) c.args.number _ _ g.most _ (c.loop-e.invariant.1 c.other-b.result)
          c.requires.1.1.1.1.0 (c.requires.1.1.1.1.1.1.1 c.other-b.result);
    }

pub loop-e-preserved : goal.loop-e-preserved
loop-e-preserved g c =
    let at = comes_to g.E.GroupEntry.leaf c.args.group.now c.loop-e.e-index c.e-item.result (omega arith) c.e-item.is in (
      sum_after at c.other-b.ensures c.weight-w.ensures (search rules) c.args.two.now _ _ c.loop-e.invariant.0 c.plus_product-sum.ensures,
      rows_after at c.other-b.ensures c.weight-w.ensures (search rules) c.args.number _ _ _ c.loop-e.invariant.1 c.add_product.ensures.here
          c.add_product.ensures.others,
    )
