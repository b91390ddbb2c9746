use Rattle.def_program_readings.proofs.Parts.{parts_of_commands}
use Rattle.def_program_readings.proofs.parts_are_of_commands.Goals as goal

pub returns : goal.returns
returns c = parts_of_commands
