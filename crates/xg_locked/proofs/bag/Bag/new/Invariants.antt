use Rattle.std.proofs.Common.{[], ◌+◌}
use Rattle.def_history.specs.History.{job_numbers}
use Rattle.xg_locked.specs.Rights.{job_count_of, rights_for, seen, stripes_of}
use Rattle.xg_locked.proofs.bag.Bag.new.Given as goal

abbrev pub ghosts-give_all : goal.ghosts-give_all
ghosts-give_all g a = record {
  kept = seen [] 64 (stripes_of a.seat.now.me.0.number + 65) a.seat.now.me.0.number;
  given = seen (rights_for (job_numbers (job_count_of a.seat.now.me.0.number)) (stripes_of a.seat.now.me.0.number)) 0 1 a.seat.now.me.0.number;
}
