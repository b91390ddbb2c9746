use Rattle.xg_jobs.specs.Groups.{greatest_of}
use Rattle.xg_sides.proofs.writing.write_alone.Given as goal

abbrev pub ghost-sum_groups : goal.ghost-sum_groups
ghost-sum_groups g a = greatest_of a.two.now

abbrev pub ghost-spread_groups : goal.ghost-spread_groups
ghost-spread_groups g a = greatest_of a.one.now
