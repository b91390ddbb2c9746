use Rattle.def_program_readings.proofs.Lengths.{lengths}
use Rattle.def_program_readings.proofs.lengths_come_first.Goals as goal

pub returns : goal.returns
returns c = lengths
