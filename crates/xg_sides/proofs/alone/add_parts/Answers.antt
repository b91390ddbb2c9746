use Rattle.std.proofs.Common.{rules, arith}
use Rattle.xg_jobs.proofs.PassOverGroup.{comes_to, listed, product_fits, row_fits, rows_after}
use Rattle.xg_sides.proofs.alone.add_parts.Goals as goal

pub add_product-requires : goal.add_product-requires
add_product-requires g c =
    let at = comes_to g.E.GroupEntry.leaf c.args.group.now c.loop-e.e-index c.e-item.result (omega arith) c.e-item.is in
    record {
      inside = omega (arith, listed at c.other-b.ensures _ c.requires.1.1.0);
      small = omega arith;
      product = product_fits at c.other-b.ensures c.weight-w.ensures (search rules) _ g.most _ c.requires.1.1.1.0 (omega (arith, c.requires.1.1.1.1.1 0));
      room = row_fits at c.other-b.ensures c.weight-w.ensures (search rules) c.args.number _ _ g.most _ (c.loop-e.invariant c.other-b.result)
          c.requires.1.1.1.0 (c.requires.1.1.1.1.1 c.other-b.result);
    }

pub loop-e-preserved : goal.loop-e-preserved
loop-e-preserved g c =
    rows_after (comes_to g.E.GroupEntry.leaf c.args.group.now c.loop-e.e-index c.e-item.result (omega arith) c.e-item.is) c.other-b.ensures
    c.weight-w.ensures (search rules) c.args.number _ _ _ c.loop-e.invariant c.add_product.ensures.here c.add_product.ensures.others
