use Rattle.std.proofs.Common.{◌≡◌, ◌+◌, [], length}
use Rattle.xg_jobs.specs.Rows.{all_rows}
use Rattle.xg_locked.specs.Rights.{seen, stripes_of}
use Rattle.xg_board.specs.Closing.{Gathered}
use Rattle.xg_board.proofs.close.take_stripes.Given as goal

abbrev pub invariant-loop-stripe : goal.invariant-loop-stripe
invariant-loop-stripe g l = record {
  here : l.all.table_id ≡ g.N.RowName.table;
  view : l.all.me
      ≡ (seen l.all.me.0.rights l.initial.all.me.0.tickets (l.initial.all.me.0.parts + length l.yielded) l.initial.all.me.0.number, []);
  gathered : Gathered g.N.RowName.jobs g.N.RowName.rows (stripes_of l.initial.all.me.0.number) g.N.RowName.amount l.initial.all.me.0.rights l.all.me.0.rights
      (all_rows l.rows);
  one : length l.rows.one ≡ length l.initial.rows.one;
}
