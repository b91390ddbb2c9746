use Rattle.std.proofs.Common.{◌<◌, ◌-◌, ◌∙◌, length, ap, arith}
use Rattle.xg_run.proofs.BatchEntries.{one_read, room_left, still_within}
use Rattle.xg_run.proofs.batch.read_entries.Goals as goal

pub names-preserved : goal.names-preserved
names-preserved g c =
    let low : c.names.i < length c.args.names.now = c.names-test.true in
    let before = c.names.invariant in
    let items = c.push_reserved.ensures.items in
    let entry = c.in_ok-entry.entry in
    let kept = c.kept_bytes-room.ensures in
    record {
      so_far = one_read c.names.i c.names.entries.items c.push_reserved.new.self.items entry c.names.room items before.left
          (g.F.Files.told c.args.files.now) (g.F.Files.told c.names.files) c.args.names.now _ low before.same_told before.so_far
          c.in_ok-entry.ensures.exact;
      within = still_within c.names.i c.names.entries.items c.push_reserved.new.self.items entry c.names.room items
          before.left c.in_ok-entry.ensures.within before.within;
      left = ap (λ n. c.names.room - n) kept
          ∙ room_left c.names.i c.names.entries.items c.push_reserved.new.self.items entry c.names.room items before.left
          c.in_ok-entry.ensures.within;
      count = omega (arith, ap length items, before.count);
      capacity = c.push_reserved.ensures.capacity ∙ before.capacity;
      same_told = c.in_ok-entry.ensures.same_told ∙ before.same_told;
      same_names = c.in_ok-entry.ensures.same_names ∙ before.same_names;
      opens = omega (arith, before.opens, c.in_ok-entry.ensures.opens);
      blameless = c.in_ok-entry.ensures.cause ∙ before.blameless;
    }
