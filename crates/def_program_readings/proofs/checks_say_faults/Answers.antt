use Rattle.def_program_readings.proofs.Lines.{checks}
use Rattle.def_program_readings.proofs.checks_say_faults.Goals as goal

pub returns : goal.returns
returns c = checks
