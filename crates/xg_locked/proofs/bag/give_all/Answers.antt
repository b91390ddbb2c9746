use Rattle.xg_locked.proofs.RightsMoveUnderLocks.{all_is_cut}
use Rattle.xg_locked.proofs.bag.give_all.Goals as goal

pub cut-requires-clause-cut : goal.cut-requires-clause-cut
cut-requires-clause-cut g c = rw (c.requires.whole, c.requires.kept, c.requires.given) (all_is_cut c.args.seat.now.me.0.number)
