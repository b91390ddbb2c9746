use Rattle.def_program_readings.proofs.Counts.{opens}
use Rattle.def_program_readings.proofs.opens_are_read.Goals as goal

pub returns : goal.returns
returns c = opens
