use Rattle.def_program_readings.proofs.Counts.{counts}
use Rattle.def_program_readings.proofs.counts_are_read.Goals as goal

pub returns : goal.returns
returns c = counts
