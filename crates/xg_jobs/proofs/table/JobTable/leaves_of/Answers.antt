use Rattle.std.proofs.Common.{◌<◌, length, arith, subst, sym}
use Rattle.xg_jobs.proofs.RangeLemmas.{range_at, first_in_limit}
use Rattle.xg_jobs.specs.Table.{TableOfJobs}
use Rattle.xg_jobs.proofs.table.JobTable.leaves_of.Goals as goal

pub overflow_add-result : goal.overflow_add-result
overflow_add-result c =
    let P : TableOfJobs → Type 0 = λ t. c.args.job < length t.ranges in
    let small = first_in_limit c.self.inside.ranges.items c.args.job c.index-range.result.now (subst P (sym c.self.view_is) c.requires) c.index-range.ensures
    c.self.invariant.inside in
    omega arith

pub returns-clause-leaves : goal.returns-clause-leaves
returns-clause-leaves c =
    let P : TableOfJobs → Type 0 = λ t. c.args.job < length t.ranges in
    let view = c.self.view_is in
    rw (sym view) (range_at c.self.inside.ranges.items c.args.job c.index-range.result.now (subst P (sym c.self.view_is) c.requires) c.index-range.ensures)
