use Rattle.std.proofs.Common.{sym, ◌∙◌, arith}
use Rattle.xg_batch.proofs.GatheredItems.{items_room, last_is_item, last_is_there, one_gathered, shares_less}
use Rattle.xg_batch.proofs.crew.move_last.Goals as goal

pub take_last-item-requires : goal.take_last-item-requires
take_last-item-requires c =
    let worker = c.index_mut.result.now in
    let crew = c.args.crew.now in
    let there = last_is_there c.args.batch.now c.args.file crew.items worker c.requires.workers
    (sym crew.ok.0 ∙ c.requires.crew) c.requires.shares c.index_mut.ensures.value in
    omega (arith, worker.items.ok.0, there)

pub push_reserved-requires : goal.push_reserved-requires
push_reserved-requires c =
    let items = c.args.items.now in
    omega (arith, items.ok.0, items_room c.args.batch.now c.args.file items.items c.requires.file c.requires.items, c.requires.room)

pub returns-clause-shares : goal.returns-clause-shares
returns-clause-shares c =
    let crew = c.args.crew.now in
    shares_less c.args.batch.now c.args.file crew.items c.index_mut.result.now c.requires.workers
    (sym crew.ok.0 ∙ c.requires.crew) c.requires.shares c.index_mut.ensures.value c.take_last-item.new.self
    c.take_last-item.result c.take_last-item.ensures

pub returns-clause-items : goal.returns-clause-items
returns-clause-items c =
    let crew = c.args.crew.now in
    one_gathered c.args.batch.now c.args.file c.args.items.now.items c.push_reserved.new.self.items
    c.take_last-item.result c.requires.file c.requires.items
    (last_is_item c.args.batch.now c.args.file crew.items c.index_mut.result.now c.requires.workers
    (sym crew.ok.0 ∙ c.requires.crew) c.requires.shares c.index_mut.ensures.value c.take_last-item.new.self
    c.take_last-item.result c.take_last-item.ensures)
    c.push_reserved.ensures.items
