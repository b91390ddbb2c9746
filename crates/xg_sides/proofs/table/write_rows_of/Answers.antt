use Rattle.def_sums.specs.Limits.{most_root}
use Rattle.xg_jobs.proofs.FormRows.{wide_room}
use Rattle.xg_jobs.proofs.Greatest.{greatest_within}
use Rattle.xg_sides.proofs.table.write_rows_of.Goals as goal

pub write_groups-requires-clause-room : goal.write_groups-requires-clause-room
write_groups-requires-clause-room c = wide_room _ _ (greatest_within c.args.against.now most_root c.requires.small)
