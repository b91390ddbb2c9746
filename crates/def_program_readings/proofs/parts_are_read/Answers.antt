use Rattle.def_program_readings.proofs.Parts.{parts_read}
use Rattle.def_program_readings.proofs.parts_are_read.Goals as goal

pub returns : goal.returns
returns c = parts_read
