use Rattle.std.proofs.Common.{◌≡◌, ◌≤◌, [], length, All}
use Rattle.std.specs.Prelude.{vec_capacity}
use Rattle.xg_words.specs.Running.{IsReadyToClaim}
use Rattle.xg_words.proofs.crew.make_crew.Given as goal

abbrev pub invariant-loop-number : goal.invariant-loop-number
invariant-loop-number g l = record {
  room : l.count ≤ vec_capacity l.crew;
  len : length l.crew.items ≡ l.number;
  ready : All (λ m. IsReadyToClaim l.board.table.shared.table_id g.N.RowName.jobs g.N.RowName.rows g.N.RowName.amount l.room m.worker m.packet.entries)
      l.crew.items;
  owner_is : l.owner ≡ record { table = l.board.table.shared.table_id; numbers = []; made = l.number; unjoined = l.number };
}
