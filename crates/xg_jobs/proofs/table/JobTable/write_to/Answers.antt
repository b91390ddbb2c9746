use Rattle.def_sums.specs.Limits.{most_root}
use Rattle.xg_jobs.proofs.FormRows.{wide_room}
use Rattle.xg_jobs.proofs.Greatest.{both_within}
use Rattle.xg_jobs.proofs.table.JobTable.write_to.Goals as goal

pub write-requires-clause-room : goal.write-requires-clause-room
write-requires-clause-room g c κs within =
    wide_room _ _ (both_within c.args.input.now.one.now c.args.input.now.two.now most_root c.requires.numbers.small_one c.requires.numbers.small_two)
