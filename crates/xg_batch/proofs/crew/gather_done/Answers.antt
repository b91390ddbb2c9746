use Rattle.std.proofs.Common.{◌≡◌, arith, subst}
use Rattle.xg_batch.specs.Shares.{HasItemsFrom}
use Rattle.xg_batch.proofs.GatheredItems.{all_gathered}
use Rattle.xg_batch.proofs.crew.gather_done.Goals as goal

pub returns : goal.returns
returns c =
    let first : c.loop-file.file ≡ 0 = omega (arith, c.loop-file-test.false) in
    all_gathered c.args.batch.now c.loop-file.items.items c.reverse.new.self.items
    (subst (λ file. HasItemsFrom c.args.batch.now file c.loop-file.items.items) first c.loop-file.invariant.gathered)
    c.reverse.ensures.items
