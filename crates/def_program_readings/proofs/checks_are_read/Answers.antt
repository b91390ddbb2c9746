use Rattle.def_program_readings.proofs.Checks.{checks_read}
use Rattle.def_program_readings.proofs.checks_are_read.Goals as goal

pub returns : goal.returns
returns c = checks_read
