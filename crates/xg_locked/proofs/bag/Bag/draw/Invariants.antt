use Rattle.std.proofs.Common.{[]}
use Rattle.def_history.specs.Core.{rights_of}
use Rattle.xg_locked.specs.Rights.{rights_for, seen, stripes_of}
use Rattle.xg_locked.specs.Locked.{number_met}
use Rattle.xg_locked.proofs.bag.Bag.draw.Given as goal

abbrev pub ghosts-give_job : goal.ghosts-give_job
ghosts-give_job g a = record {
  kept = seen (rights_for a.rest.now (stripes_of (number_met a.seat.now.me))) 0 1 (number_met a.seat.now.me);
  given = seen (rights_of a.job (stripes_of (number_met a.seat.now.me))) 1 1 (number_met a.seat.now.me);
}

abbrev pub ghosts-give_none : goal.ghosts-give_none
ghosts-give_none g a = record {
  kept = seen [] a.seat.now.me.0.tickets 1 (number_met a.seat.now.me);
  given = seen [] 0 1 (number_met a.seat.now.me);
}
