use Rattle.std.proofs.Common.{length, ◌+◌, ◌*◌}
use Rattle.xg_jobs.proofs.sharing.+sharing.Given as goal

abbrev pub decreases-add_by_threads : goal.decreases-add_by_threads
decreases-add_by_threads g l = 4 * length l.spare.now

abbrev pub decreases-add_side_by_side : goal.decreases-add_side_by_side
decreases-add_side_by_side g l = 4 * length l.spare.now + 2

abbrev pub decreases-add_side_by_side-one : goal.decreases-add_side_by_side-one
decreases-add_side_by_side-one g l = 4 * length l.spare.now + 1
