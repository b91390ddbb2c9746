use Rattle.def_program_readings.proofs.Counts.{said_lines}
use Rattle.def_program_readings.proofs.said_lines_are_read.Goals as goal

pub returns : goal.returns
returns c = said_lines
