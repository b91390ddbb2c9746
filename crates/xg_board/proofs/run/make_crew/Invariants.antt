use Rattle.std.proofs.Common.{◌≡◌, ◌≤◌, length, All}
use Rattle.std.specs.Prelude.{vec_capacity}
use Rattle.xg_locked.specs.Rights.{number_from}
use Rattle.xg_board.specs.Running.{IsReady}
use Rattle.xg_board.proofs.run.make_crew.Given as goal

abbrev pub invariant-loop-number : goal.invariant-loop-number
invariant-loop-number g l = record {
  room : l.count ≤ vec_capacity l.crew;
  len : length l.crew.items ≡ l.number;
  ready : All (λ w. IsReady (number_from l.board.jobs l.board.stripes) l.room w.pass w.packet.entries) l.crew.items;
  purse_is : l.purse ≡ record { made = l.number; number = number_from l.board.jobs l.board.stripes };
}
