use Rattle.def_program_readings.proofs.Ranges.{ranges}
use Rattle.def_program_readings.proofs.ranges_are_read.Goals as goal

pub returns : goal.returns
returns c = ranges
