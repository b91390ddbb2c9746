use Rattle.xg_batch.proofs.ItemsInOrder.{holds_more}
use Rattle.xg_batch.proofs.worker.Worker.add.Goals as goal

pub returns : goal.returns
returns g c =
    let items = rw c.in_ok-reserve.ensures.items at (rw c.in_ok-item.ensures.items at c.push_reserved.ensures.items) in
    record {
      share =
          holds_more c.args.batch.now c.args.number c.args.file c.args.self.now.items.items c.push_reserved.new.self.items
          c.in_ok-item.item c.requires.file.1 c.requires.share c.in_ok-item.ensures.item items;
    }
