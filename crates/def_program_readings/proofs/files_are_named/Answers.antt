use Rattle.def_program_readings.proofs.Meanings.{files_named}
use Rattle.def_program_readings.proofs.files_are_named.Goals as goal

pub returns : goal.returns
returns c = files_named
