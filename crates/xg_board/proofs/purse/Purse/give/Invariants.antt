use Rattle.std.proofs.Common.{[], ◌-◌}
use Rattle.xg_locked.specs.Rights.{seen}
use Rattle.xg_board.proofs.purse.Purse.give.Given as goal

abbrev pub ghosts-cut : goal.ghosts-cut
ghosts-cut g a = record {
  kept = seen [] (a.seat.now.me.0.tickets - 1) (a.seat.now.me.0.parts - 1) a.seat.now.me.0.number;
  given = seen [] 1 1 a.seat.now.me.0.number;
}
