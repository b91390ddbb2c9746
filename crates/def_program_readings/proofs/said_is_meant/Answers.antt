use Rattle.def_program_readings.proofs.Lines.{said_is_meant}
use Rattle.def_program_readings.proofs.said_is_meant.Goals as goal

pub returns : goal.returns
returns c = said_is_meant
