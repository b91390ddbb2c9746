use Rattle.std.proofs.Common.{[], ◌∷◌, ◌++◌, drop, length}
use Rattle.xg_locked.specs.Rights.{rights_at, seen}
use Rattle.xg_locked.specs.Locked.{number_met, without}
use Rattle.xg_locked.proofs.stripe.SeatedStripe.add.Given as goal

abbrev pub ghosts-give_others : goal.ghosts-give_others
ghosts-give_others g a = record {
  kept = seen (rights_at a.stripe.now.index (a.stripe.now.order ++ a.job ∷ [])) 0 1 (number_met a.seat.now.me);
  given =
      seen (without a.job a.stripe.now.index (drop (length a.stripe.now.order) a.seat.now.me.0.rights)) a.seat.now.me.0.tickets 1 (number_met a.seat.now.me);
}
