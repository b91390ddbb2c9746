use Rattle.def_program_readings.proofs.Meanings.{meanings}
use Rattle.def_program_readings.proofs.meanings_are_read.Goals as goal

pub returns : goal.returns
returns c = meanings
