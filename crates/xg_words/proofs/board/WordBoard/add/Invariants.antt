use Rattle.std.proofs.Common.{◌≡◌}
use Rattle.xg_words.specs.Holdings.{AreLeft}
use Rattle.xg_words.proofs.board.WordBoard.add.Given as goal

abbrev pub invariant-loop-i : goal.invariant-loop-i
invariant-loop-i g l = record {
  table : l.worker.table ≡ l.initial.worker.table;
  numbers : l.worker.numbers ≡ l.initial.worker.numbers;
  left : AreLeft g.N.RowName.amount g.N.RowName.rows l.packet.job l.packet.entries.list l.i l.worker.reached;
}
