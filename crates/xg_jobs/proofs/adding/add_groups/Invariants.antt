use Rattle.std.proofs.Common.{max}
use Rattle.xg_jobs.specs.Groups.{greatest_of}
use Rattle.xg_jobs.proofs.adding.add_groups.Given as goal

abbrev pub ghost-both_rows : goal.ghost-both_rows
ghost-both_rows g a = max (greatest_of a.one.now) (greatest_of a.two.now)
