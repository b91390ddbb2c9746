use Rattle.std.proofs.Common.{◌≡◌, []}
use Rattle.xg_locked.specs.Rights.{seen}
use Rattle.xg_board.specs.Visits.{HoldsLeft}
use Rattle.xg_board.proofs.board.RowBoard.add.Given as goal

abbrev pub invariant-loop-i : goal.invariant-loop-i
invariant-loop-i g l = record {
  here : l.seat.table_id ≡ g.N.RowName.table;
  view : l.seat.me ≡ (seen l.seat.me.0.rights l.initial.seat.me.0.tickets 1 l.initial.seat.me.0.number, []);
  held : HoldsLeft l.packet.job l.self.stripes l.start l.i l.seat.me.0.rights;
}
