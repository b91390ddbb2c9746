use Rattle.std.proofs.Common.{[], ◌-◌}
use Rattle.xg_locked.specs.Rights.{seen}
use Rattle.xg_locked.proofs.stripe.SeatedStripe.new.Given as goal

abbrev pub ghosts-give_part : goal.ghosts-give_part
ghosts-give_part g a = record {
  kept = seen [] a.seat.now.me.0.tickets (a.seat.now.me.0.parts - 1) a.seat.now.me.0.number;
  given = seen [] 0 1 a.seat.now.me.0.number;
}
