use Rattle.std.proofs.Common.{◌≡◌, ◌+◌, ◌-◌, [], vec_len}
use Rattle.xg_locked.specs.Rights.{seen}
use Rattle.xg_board.proofs.open.seated_stripes.Given as goal

abbrev pub invariant-loop-index : goal.invariant-loop-index
invariant-loop-index g l = record {
  here : l.seat.table_id ≡ g.N.RowName.table;
  view : l.seat.me ≡ (seen [] 64 (l.stripes + 65 - l.index) l.initial.seat.me.0.number, []);
  len : vec_len l.locked ≡ l.index;
}
