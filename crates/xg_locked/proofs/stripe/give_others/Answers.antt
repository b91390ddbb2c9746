use Rattle.xg_locked.proofs.RightsMoveUnderLocks.{right_is_cut}
use Rattle.xg_locked.proofs.stripe.give_others.Goals as goal

pub cut-requires-clause-cut : goal.cut-requires-clause-cut
cut-requires-clause-cut g c = rw (c.requires.joined, c.requires.kept, c.requires.given) (right_is_cut _ _ _ _ _ _ c.requires.right)
