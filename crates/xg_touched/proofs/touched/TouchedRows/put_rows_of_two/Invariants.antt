use Rattle.std.proofs.Common.{◌≡◌}
use Rattle.xg_touched.specs.Filling.{amount_upto, entries_upto}
use Rattle.xg_touched.proofs.touched.TouchedRows.put_rows_of_two.Given as goal

abbrev pub invariant-loop-i : goal.invariant-loop-i
invariant-loop-i l = record {
  job : l.into.job ≡ l.initial.into.job;
  list : l.into.entries.list ≡ entries_upto (amount_upto l.form l.one l.two l.self.range.first l.self.range.count) l.i l.self.rows;
  room : l.into.entries.room ≡ l.initial.into.entries.room;
  chained : l.into.entries.chained ≡ l.initial.into.entries.chained;
}
