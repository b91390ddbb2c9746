use Rattle.xg_locked.proofs.RightsMoveUnderLocks.{job_is_cut}
use Rattle.xg_locked.proofs.bag.give_job.Goals as goal

pub cut-requires-clause-cut : goal.cut-requires-clause-cut
cut-requires-clause-cut g c = rw (c.requires.joined, c.requires.kept, c.requires.given) (job_is_cut c.args.rest.now c.args.job c.args.seat.now.me.0.number)
