use Rattle.def_program_readings.proofs.Bounds.{bounds_read}
use Rattle.def_program_readings.proofs.bounds_are_read.Goals as goal

pub returns : goal.returns
returns c = bounds_read
