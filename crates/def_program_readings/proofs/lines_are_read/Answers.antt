use Rattle.def_program_readings.proofs.Lines.{lines}
use Rattle.def_program_readings.proofs.lines_are_read.Goals as goal

pub returns : goal.returns
returns c = lines
