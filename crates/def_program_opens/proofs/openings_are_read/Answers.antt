use Rattle.def_program_opens.proofs.Openings.{openings}
use Rattle.def_program_opens.proofs.openings_are_read.Goals as goal

pub returns : goal.returns
returns c = openings
